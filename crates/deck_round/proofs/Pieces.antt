-- The pieces that tokens are: each stands as one token, where it is closed behind.
use Rattle.std.proofs.Common.{◌≡◌, ℕ, ◌+◌, ◌<◌, true, false, ◌||◌, eqb, ltb, List, [], ◌∷◌, ◌++◌, length, drop, get_or, Option, Result, refl, sym, ap, subst, ◌∙◌, arith, append_assoc, length-append}
use Rattle.std.specs.List.{prefix_len, list_all}
use Rattle.std.proofs.Math.Seq.{get_or-append_seam}
use Rattle.std.proofs.lemmas.Bool.{and_parts, and_left, and_right, or_from, ne_eqb, lt-ltb}
use Rattle.std.proofs.lemmas.Bool.Decides.{nat_tests}
use Rattle.std.proofs.lemmas.List.{drop_at}
use Rattle.deck_lexer.specs.declared.token.Token.{Token}
use Rattle.deck_lexer.specs.declared.token.TokenKind.{TokenKind}
use Rattle.deck_lexer.specs.declared.token.TokenKind.TheVariants as kinds
use Rattle.deck_lexer.specs.declared.token.LexFault.{LexFault}
use Rattle.deck_lexer.specs.Bytes.{is_blank, is_digit, begins_word, continues_word, is_text_byte, is_in_line, is_sign, begins_comparison}
use Rattle.deck_lexer.specs.Tokens.{begins_comment, goes_on_as_word, closes_on_line, StandsAt}
use Rattle.deck_lexer.specs.Working.Reading.{kind_of, part_len, with_point, number_len, sign_len, token, number_at, sign_at, text_at, standing_as, standing}
use Rattle.deck_lexer.proofs.Spans.{Stops, span_len}
use Rattle.deck_lexer.proofs.Lens.{closes_behind}
use Rattle.deck_lexer.proofs.Fronts.{stands, no_part, no_comment_from}
use Rattle.deck_grammar.specs.declared.kind.Kind.{Kind}
use Rattle.deck_grammar.specs.declared.kind.Kind.TheVariants as token_kinds
use Rattle.deck_grammar.specs.Lexemes.{lexeme}
use Rattle.deck_grammar.specs.Words.{word_kind, sign_kind}
use Rattle.deck_cursor.specs.Places.{kind_in}
use Rattle.deck_round.proofs.Levels.{Flat}
use Rattle.deck_round.proofs.Lexing.{read_token, closes, Closed, Anything, Piece}

-- the bytes are one token of this kind, where what comes behind them is so
pub record Spot (E : List ℕ → Type 0) (k : Kind) (s : List ℕ) : Type 0 where
  pub piece : (at : ℕ) → Piece E at s (lexeme k at s ∷ [])

-- and it is no round bracket
pub record One (E : List ℕ → Type 0) (k : Kind) (s : List ℕ) : Type 0 where
  pub spot : Spot E k s
  pub flat : Flat k

-- what is computed to stand at the front is one token
computed : {E : List ℕ → Type 0} (kind : TokenKind) (s : List ℕ)
    → ((at : ℕ) (rest : List ℕ) → E rest → (part_len (s ++ rest) ≡ 0) × (standing at (s ++ rest) ≡ token kind at (length s)))
    → Spot E (kind_in kind s) s
computed {E} kind s is = record {
  piece = λ at rest more behind read.
      let both = is at rest behind in
      let answer : StandsAt at (s ++ rest) (token kind at (length s)) = subst (λ (a : Result (Option Token) LexFault). StandsAt at (s ++ rest) a) both.1 (stands at (s ++ rest) both.0) in
      read_token at kind s rest more answer read;
}

-- ---- Words

closes_no_word : (c : ℕ) → closes c ≡ true → continues_word c ≡ false
closes_no_word c is = grind (arith, nat_tests)

closed_stops : (rest : List ℕ) → Closed rest → Stops continues_word rest
closed_stops [] closed = tt
closed_stops (c ∷ more) closed = closes_no_word c closed

word_no_blank : (c : ℕ) → begins_word c ≡ true → is_blank c ≡ false
word_no_blank c is = grind (arith, nat_tests)

word_no_slash : (c : ℕ) → begins_word c ≡ true → c ≡ 47 → ⊥
word_no_slash c is = λ e. let no : begins_word 47 ≡ true = ap begins_word (sym e) ∙ is in cc

pub word : (c : ℕ) (more : List ℕ) → begins_word c ≡ true → list_all continues_word more ≡ true → Spot Closed (word_kind (c ∷ more)) (c ∷ more)
unfolding standing
word c more begins continues = computed kinds.Word (c ∷ more) (λ at rest closed.
    let len : prefix_len continues_word (more ++ rest) ≡ length more = span_len continues_word more rest continues (closed_stops rest closed) in
    let size : prefix_len continues_word (more ++ rest) + 1 ≡ length (c ∷ more) = omega (arith, len) in
    (no_part c (more ++ rest) (word_no_blank c begins) (no_comment_from c (more ++ rest) (word_no_slash c begins)), rw begins (ap (token kinds.Word at) size)))

-- ---- Signs

closes_apart : (c : ℕ) → closes c ≡ true → (eqb c 47 ≡ false) × (eqb c 42 ≡ false) × (eqb c 61 ≡ false) × (eqb c 46 ≡ false)
closes_apart c is = (grind (arith, nat_tests), grind (arith, nat_tests), grind (arith, nat_tests), grind (arith, nat_tests))

closes_no_digit : (c : ℕ) → closes c ≡ true → is_digit c ≡ false
closes_no_digit c is = grind (arith, nat_tests)

no_comment_closed : (c : ℕ) (rest : List ℕ) → Closed rest → begins_comment (c ∷ rest) ≡ false
no_comment_closed c [] closed = refl
no_comment_closed c (d ∷ more) closed =
    let apart = closes_apart d closed in
    and_right (eqb c 47) (eqb d 47 || eqb d 42) (or_from (eqb d 47) (eqb d 42) apart.0 apart.1)

one_sign : (c : ℕ) (rest : List ℕ) → is_sign c ≡ true → Closed rest → sign_len (c ∷ rest) ≡ 1
one_sign c [] is closed = rw is refl
one_sign c (d ∷ more) is closed = rw (and_right (begins_comparison c) (eqb d 61) (closes_apart d closed).2, is) refl

plain_sign : (c : ℕ) (rest : List ℕ) → is_sign c ≡ true → begins_comparison c ≡ false → sign_len (c ∷ rest) ≡ 1
plain_sign c [] is other = rw is refl
plain_sign c (d ∷ more) is other = rw (and_left (begins_comparison c) (eqb d 61) other, is) refl

-- a sign of one byte, as it stands at the front
sign_standing : (at c : ℕ) (rest : List ℕ) → kind_of c ≡ kinds.Sign → begins_comment (c ∷ rest) ≡ false → sign_len (c ∷ rest) ≡ 1 → standing at (c ∷ rest) ≡ token kinds.Sign at 1
unfolding standing sign_at
sign_standing at c rest kind no_comment len = ap (λ (k : TokenKind). standing_as k at c rest) kind ∙ rw (no_comment, len) refl

-- what is known of a byte that is a sign
pub record Sign (c : ℕ) : Type 0 where
  pub is : is_sign c ≡ true
  pub kind : kind_of c ≡ kinds.Sign
  pub no_blank : is_blank c ≡ false

-- a sign of one byte, behind which nothing comes that would go on with it
pub sign : (c : ℕ) → Sign c → Spot Closed (sign_kind (c ∷ [])) (c ∷ [])
sign c is = computed kinds.Sign (c ∷ []) (λ at rest closed.
    let no_comment = no_comment_closed c rest closed in
    (no_part c rest is.no_blank no_comment, sign_standing at c rest is.kind no_comment (one_sign c rest is.is closed)))

-- a sign behind which anything may come
pub opening : (c : ℕ) → Sign c → begins_comparison c ≡ false → (c ≡ 47 → ⊥) → Spot Anything (sign_kind (c ∷ [])) (c ∷ [])
opening c is other apart = computed kinds.Sign (c ∷ []) (λ at rest any.
    let no_comment = no_comment_from c rest apart in
    (no_part c rest is.no_blank no_comment, sign_standing at c rest is.kind no_comment (plain_sign c rest is.is other)))

-- a comparison of two bytes
pub double : (c : ℕ) → begins_comparison c ≡ true → kind_of c ≡ kinds.Sign → is_blank c ≡ false → Spot Closed (sign_kind (c ∷ 61 ∷ [])) (c ∷ 61 ∷ [])
unfolding standing sign_at
double c is kind no_blank = computed kinds.Sign (c ∷ 61 ∷ []) (λ at rest closed.
    let no_comment : begins_comment (c ∷ 61 ∷ rest) ≡ false = and_right (eqb c 47) (eqb 61 47 || eqb 61 42) refl in
    (no_part c (61 ∷ rest) no_blank no_comment, ap (λ (k : TokenKind). standing_as k at c (61 ∷ rest)) kind ∙ rw (no_comment, is) refl))

-- ---- Numbers

digit_kind : (c : ℕ) → is_digit c ≡ true → (kind_of c ≡ kinds.Number) × (is_blank c ≡ false) × (c ≡ 47 → ⊥)
digit_kind c is =
    let no_word : begins_word c ≡ false = digit_no_word c is in
    (rw (no_word, is) refl, digit_no_blank c is, λ e. let no : is_digit 47 ≡ true = ap is_digit (sym e) ∙ is in cc)
  where
    digit_no_word : (c : ℕ) → is_digit c ≡ true → begins_word c ≡ false
    digit_no_word c is = grind (arith, nat_tests)

    digit_no_blank : (c : ℕ) → is_digit c ≡ true → is_blank c ≡ false
    digit_no_blank c is = grind (arith, nat_tests)

closed_no_digit : (rest : List ℕ) → Closed rest → Stops is_digit rest
closed_no_digit [] closed = tt
closed_no_digit (c ∷ more) closed = closes_no_digit c closed

closed_no_word : (rest : List ℕ) → Closed rest → goes_on_as_word rest ≡ false
closed_no_word [] closed = refl
closed_no_word (c ∷ more) closed = closes_no_word c closed

with_nothing : (whole : ℕ) (rest : List ℕ) → Closed rest → with_point whole rest ≡ whole
with_nothing whole [] closed = refl
with_nothing whole (c ∷ more) closed = rw (and_left (eqb c 46) (ltb 0 (whole + prefix_len is_digit more)) (closes_apart c closed).3) refl

whole_len : (whole rest : List ℕ) → list_all is_digit whole ≡ true → Closed rest → number_len (whole ++ rest) ≡ length whole
unfolding number_len
whole_len whole rest digits closed =
    let len : prefix_len is_digit (whole ++ rest) ≡ length whole = span_len is_digit whole rest digits (closed_no_digit rest closed) in
    let behind : drop (prefix_len is_digit (whole ++ rest)) (whole ++ rest) ≡ rest = drop_at whole rest _ (sym len) in
    rw (behind, len) (with_nothing (length whole) rest closed)

point_len : (whole fraction rest : List ℕ) → list_all is_digit whole ≡ true → list_all is_digit fraction ≡ true → 0 < length whole → Closed rest
    → number_len (whole ++ 46 ∷ (fraction ++ rest)) ≡ length whole + 1 + length fraction
unfolding number_len
point_len whole fraction rest digits more some closed =
    let len : prefix_len is_digit (whole ++ 46 ∷ (fraction ++ rest)) ≡ length whole = span_len is_digit whole (46 ∷ (fraction ++ rest)) digits refl in
    let behind : drop (prefix_len is_digit (whole ++ 46 ∷ (fraction ++ rest))) (whole ++ 46 ∷ (fraction ++ rest)) ≡ 46 ∷ (fraction ++ rest) = drop_at whole _ _ (sym len) in
    let back : prefix_len is_digit (fraction ++ rest) ≡ length fraction = span_len is_digit fraction rest more (closed_no_digit rest closed) in
    let there : ltb 0 (length whole + length fraction) ≡ true = lt-ltb 0 _ (omega arith) in
    rw (behind, len, back, there) refl

-- a number as it stands at the front, by its length
number_by : (c : ℕ) (s : List ℕ) → is_digit c ≡ true → ((rest : List ℕ) → Closed rest → number_len ((c ∷ s) ++ rest) ≡ length (c ∷ s)) → Spot Closed token_kinds.Number (c ∷ s)
unfolding standing number_at
number_by c s digit len = computed kinds.Number (c ∷ s) (λ at rest closed.
    let first = digit_kind c digit in
    let size = len rest closed in
    let not_none : eqb (number_len (c ∷ (s ++ rest))) 0 ≡ false = ne_eqb _ 0 (λ e. omega (arith, size)) in
    let behind : drop (number_len (c ∷ (s ++ rest))) (c ∷ (s ++ rest)) ≡ rest = drop_at (c ∷ s) rest _ (sym size) in
    let ends : goes_on_as_word (drop (number_len (c ∷ (s ++ rest))) (c ∷ (s ++ rest))) ≡ false = ap goes_on_as_word behind ∙ closed_no_word rest closed in
    (no_part c (s ++ rest) first.1 (no_comment_from c (s ++ rest) first.2), ap (λ (k : TokenKind). standing_as k at c (s ++ rest)) first.0 ∙ rw (not_none, ends) (ap (token kinds.Number at) size)))

pub whole_number : (c : ℕ) (whole : List ℕ) → list_all is_digit (c ∷ whole) ≡ true → Spot Closed token_kinds.Number (c ∷ whole)
whole_number c whole digits = number_by c whole (and_parts (is_digit c) (list_all is_digit whole) digits).0 (λ rest closed. whole_len (c ∷ whole) rest digits closed)

pub point_number : (c : ℕ) (whole fraction : List ℕ) → list_all is_digit (c ∷ whole) ≡ true → list_all is_digit fraction ≡ true → Spot Closed token_kinds.Number (c ∷ (whole ++ 46 ∷ fraction))
point_number c whole fraction digits more = number_by c (whole ++ 46 ∷ fraction) (and_parts (is_digit c) (list_all is_digit whole) digits).0 (λ rest closed.
    let text : (c ∷ (whole ++ 46 ∷ fraction)) ++ rest ≡ (c ∷ whole) ++ 46 ∷ (fraction ++ rest) = append_assoc (c ∷ whole) (46 ∷ fraction) rest in
    ap number_len text ∙ point_len (c ∷ whole) fraction rest digits more (omega arith) closed ∙ omega (arith, length-append whole (46 ∷ fraction)))

-- ---- Texts and notes

pub text : (body : List ℕ) → list_all is_text_byte body ≡ true → Spot Closed token_kinds.Text (34 ∷ (body ++ 34 ∷ []))
unfolding standing text_at
text body fine = computed kinds.Text (34 ∷ (body ++ 34 ∷ [])) (λ at rest closed.
    let more = (body ++ 34 ∷ []) ++ rest in
    let parts : more ≡ body ++ 34 ∷ rest = append_assoc body (34 ∷ []) rest in
    let len : prefix_len is_text_byte more ≡ length body = ap (prefix_len is_text_byte) parts ∙ span_len is_text_byte body (34 ∷ rest) fine refl in
    let ends : closes_on_line more ≡ true = ap closes_on_line parts ∙ closes_behind body (34 ∷ rest) fine in
    let here : eqb (get_or more (prefix_len is_text_byte more) 0) 34 ≡ true =
    ap (λ (k : ℕ). eqb (get_or more k 0) 34) len ∙ ap (λ (t : List ℕ). eqb (get_or t (length body) 0) 34) parts ∙ ap (λ (x : ℕ). eqb x 34) (get_or-append_seam body 34 rest 0) in
    let size : prefix_len is_text_byte more + 2 ≡ length (34 ∷ (body ++ 34 ∷ [])) = omega (arith, len, length-append body (34 ∷ [])) in
    (no_part 34 more refl (no_comment_from 34 more (λ e. omega arith)), rw (ends, here) (ap (token kinds.Text at) size)))

-- the line ends, or the text
abbrev pub LineEnds : List ℕ → Type 0
LineEnds [] = Unit {0}
LineEnds (c ∷ more) = c ≡ 10

line_stops : (rest : List ℕ) → LineEnds rest → Stops is_in_line rest
line_stops [] ends = tt
line_stops (c ∷ more) ends = ap is_in_line ends

pub note : (body : List ℕ) → list_all is_in_line body ≡ true → Spot LineEnds token_kinds.Note (64 ∷ body)
unfolding standing
note body fine = computed kinds.Note (64 ∷ body) (λ at rest ends.
    let len : prefix_len is_in_line (body ++ rest) ≡ length body = span_len is_in_line body rest fine (line_stops rest ends) in
    let all : prefix_len is_in_line (body ++ rest) + 1 ≡ length (64 ∷ body) = omega (arith, len) in
    (no_part 64 (body ++ rest) refl (no_comment_from 64 (body ++ rest) (λ e. omega arith)), ap (token kinds.Note at) all))
