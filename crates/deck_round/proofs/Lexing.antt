-- Texts that have tokens, put together from the front, and which tokens these are.
use Rattle.std.proofs.Common.{◌≡◌, ℕ, suc, ◌+◌, ◌-◌, Bool, true, ◌||◌, eqb, List, [], ◌∷◌, ◌++◌, length, take, drop, Option, Some, None, Result, Ok, refl, sym, ap, subst, ◌∙◌, inl, inr, arith, append_assoc, length-append}
use Rattle.std.proofs.lemmas.List.{take_at, drop_at, drop-drop}
use Rattle.deck_lexer.specs.declared.token.Token.{Token}
use Rattle.deck_lexer.specs.declared.token.TokenKind.{TokenKind}
use Rattle.deck_lexer.specs.declared.token.LexFault.{LexFault}
use Rattle.deck_lexer.specs.Bytes.{is_blank}
use Rattle.deck_lexer.specs.Tokens.{Blank, IsGap, IsTokenAt, StandsAt, Comes, Lexes}
use Rattle.deck_grammar.specs.Lexemes.{Lexeme, lexeme}
use Rattle.deck_cursor.specs.Places.{kind_in, lexemes}

-- a gap with a blank before it
comes_blank : (at c : ℕ) (bytes : List ℕ) (answer : Result (Option Token) LexFault) → is_blank c ≡ true → Comes (suc at) bytes answer → Comes at (c ∷ bytes) answer
comes_blank at c bytes answer blank comes = record {
  gap = c ∷ comes.gap;
  behind = comes.behind;
  whole = ap (λ (t : List ℕ). c ∷ t) comes.whole;
  is_gap = grown c comes.gap comes.behind blank comes.is_gap;
  stands = let same : suc at + length comes.gap ≡ at + length (c ∷ comes.gap) = omega arith in subst (λ (k : ℕ). StandsAt k comes.behind answer) same comes.stands;
}
  where
    grown : (c : ℕ) (gap rest : List ℕ) → is_blank c ≡ true → IsGap gap rest → IsGap (c ∷ gap) rest
    grown c gap rest blank (parts, each, inl whole) = (Blank c ∷ parts, (blank, each), inl (ap (λ (t : List ℕ). c ∷ t) whole))
    grown c gap rest blank (parts, each, inr last) = (Blank c ∷ parts, (blank, each), inr (last.0, last.1, ap (λ (t : List ℕ). c ∷ t) last.2, last.3))

-- from this offset on the bytes are these tokens, in any text that they end
abbrev pub Read : ℕ → List ℕ → List Lexeme → Type 0
Read at bytes those = (text : List ℕ) → drop at text ≡ bytes → (tokens : List Token) × Lexes text at tokens (Ok None) × (lexemes text tokens ≡ those)

pub read_end : (at : ℕ) → Read at [] []
read_end at = λ text is. ([], record { gap = []; behind = []; whole = is; is_gap = ([], tt, inl refl); stands = refl }, refl)

drop_one : (at c : ℕ) (bytes text : List ℕ) → drop at text ≡ c ∷ bytes → drop (suc at) text ≡ bytes
drop_one at c bytes text is =
    let one : suc at ≡ at + 1 = omega arith in
    ap (λ (k : ℕ). drop k text) one ∙ sym (drop-drop 1 at text) ∙ ap (drop 1) is

lexes_blank : (at c : ℕ) (bytes text : List ℕ) → is_blank c ≡ true → drop at text ≡ c ∷ bytes → drop (suc at) text ≡ bytes
    → (tokens : List Token) → Lexes text (suc at) tokens (Ok None) → Lexes text at tokens (Ok None)
lexes_blank at c bytes text blank is behind [] lexing =
    let here : Comes (suc at) bytes (Ok None) = subst (λ (t : List ℕ). Comes (suc at) t (Ok None)) behind lexing in
    subst (λ (t : List ℕ). Comes at t (Ok None)) (sym is) (comes_blank at c bytes (Ok None) blank here)
lexes_blank at c bytes text blank is behind (t ∷ tokens) lexing =
    let here : Comes (suc at) bytes (Ok (Some t)) = subst (λ (s : List ℕ). Comes (suc at) s (Ok (Some t))) behind lexing.0 in
    (subst (λ (s : List ℕ). Comes at s (Ok (Some t))) (sym is) (comes_blank at c bytes (Ok (Some t)) blank here), lexing.1)

pub read_blank : (at c : ℕ) (bytes : List ℕ) (those : List Lexeme) → is_blank c ≡ true → Read (suc at) bytes those → Read at (c ∷ bytes) those
read_blank at c bytes those blank read = λ text is.
    let behind = drop_one at c bytes text is in
    let rest = read text behind in
    (rest.0, lexes_blank at c bytes text blank is behind rest.0 rest.1, rest.2)

bytes_are : (at : ℕ) (s rest text : List ℕ) → drop at text ≡ s ++ rest → take (at + length s - at) (drop at text) ≡ s
bytes_are at s rest text is =
    let size : at + length s - at ≡ length s = omega arith in
    ap (λ (k : ℕ). take k (drop at text)) size ∙ ap (take (length s)) is ∙ take_at s rest (length s) refl

-- a token of this kind stands there, and then the rest is read
pub read_token : (at : ℕ) (kind : TokenKind) (s rest : List ℕ) (those : List Lexeme) → IsTokenAt at (s ++ rest) (record { kind = kind; start = at; «end» = at + length s })
    → Read (at + length s) rest those → Read at (s ++ rest) (lexeme (kind_in kind s) at s ∷ those)
read_token at kind s rest those stands read = λ text is.
    let t : Token = record { kind = kind; start = at; «end» = at + length s } in
    let behind : drop (at + length s) text ≡ rest = sym (drop-drop (length s) at text) ∙ ap (drop (length s)) is ∙ drop_at s rest (length s) refl in
    let later = read text behind in
    let none : at + 0 ≡ at = omega arith in
    let comes : Comes at (s ++ rest) (Ok (Some t)) = record {
      gap = [];
      behind = s ++ rest;
      whole = refl;
      is_gap = ([], tt, inl refl);
      stands = subst (λ (k : ℕ). StandsAt k (s ++ rest) (Ok (Some t))) (sym none) stands;
    } in (
      t ∷ later.0,
      (subst (λ (b : List ℕ). Comes at b (Ok (Some t))) (sym is) comes, later.1),
      ap (λ (b : List ℕ). lexeme (kind_in kind b) at b ∷ lexemes text later.0) (bytes_are at s rest text is) ∙ ap (λ (l : List Lexeme). lexeme (kind_in kind s) at s ∷ l) later.2,
    )

-- ---- Pieces of text, and what has to come behind them

-- a blank or a closing bracket comes, or the end
abbrev pub closes : ℕ → Bool
closes c = eqb c 32 || eqb c 10 || eqb c 41 || eqb c 93

abbrev pub Closed : List ℕ → Type 0
Closed [] = Unit {0}
Closed (c ∷ more) = closes c ≡ true

-- anything may come
abbrev pub Anything : List ℕ → Type 0
Anything rest = Unit {0}

-- at this offset the piece is these tokens, where what comes behind it is so
abbrev pub Piece : (List ℕ → Type 0) → ℕ → List ℕ → List Lexeme → Type 0
Piece E at w those = (rest : List ℕ) (more : List Lexeme) → E rest → Read (at + length w) rest more → Read at (w ++ rest) (those ++ more)

-- behind the first piece the second may come
abbrev pub Before : (E F : List ℕ → Type 0) → List ℕ → Type 0
Before E F w = (rest : List ℕ) → E rest → F (w ++ rest)

pub piece_nil : (E : List ℕ → Type 0) (at : ℕ) → Piece E at [] []
piece_nil E at = λ rest more behind read. let same : at + 0 ≡ at = omega arith in subst (λ (k : ℕ). Read k rest more) same read

pub piece_then : {E F : List ℕ → Type 0} (at : ℕ) (a b : List ℕ) (ls ms : List Lexeme) → Piece F at a ls → Before E F b → Piece E (at + length a) b ms → Piece E at (a ++ b) (ls ++ ms)
piece_then at a b ls ms first before second = λ rest more behind read.
    let size : at + length (a ++ b) ≡ at + length a + length b = omega (arith, length-append a b) in
    let later : Read (at + length a) (b ++ rest) (ms ++ more) = second rest more behind (subst (λ (k : ℕ). Read k rest more) size read) in
    subst (λ (t : List ℕ). Read at t ((ls ++ ms) ++ more)) (sym (append_assoc a b rest))
    (subst (λ (l : List Lexeme). Read at (a ++ (b ++ rest)) l) (sym (append_assoc ls ms more)) (first (b ++ rest) (ms ++ more) (before rest behind) later))

pub piece_blank : {E : List ℕ → Type 0} (at c : ℕ) (w : List ℕ) (those : List Lexeme) → is_blank c ≡ true → Piece E (suc at) w those → Piece E at (c ∷ w) those
piece_blank at c w those blank piece = λ rest more behind read.
    let size : at + length (c ∷ w) ≡ suc at + length w = omega arith in
    read_blank at c (w ++ rest) (those ++ more) blank (piece rest more behind (subst (λ (k : ℕ). Read k rest more) size read))

pub before_then : (a b : List ℕ) → Before Closed Closed a → Before Closed Closed b → Before Closed Closed (a ++ b)
before_then a b first second = λ rest e. subst Closed (sym (append_assoc a b rest)) (first (b ++ rest) (second rest e))
