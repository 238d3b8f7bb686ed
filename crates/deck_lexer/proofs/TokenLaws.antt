-- One list of tokens a text, or one first fact.
use Rattle.std.proofs.Common.{◌≡◌, ℕ, suc, zero, ◌+◌, ◌<◌, ◌≤◌, ◌⊎◌, inl, inr, List, [], ◌∷◌, length, drop, Option, Some, None, Result, Ok, Err, refl, sym, ap, subst, ◌∙◌, arith, length-append, length-drop}
use Rattle.deck_lexer.specs.declared.token.Token.{Token}
use Rattle.deck_lexer.specs.declared.token.LexFault.{LexFault}
use Rattle.deck_lexer.specs.Tokens.{Comes, Lexes, lexes, IsFirstFact}
use Rattle.deck_lexer.proofs.FirstBytes.{spelling_begins}
use Rattle.deck_lexer.proofs.OneGap.{one_comes, some_comes}

-- the end, or a fact
abbrev IsLast : Result (Option Token) LexFault → Type 0
IsLast (Ok None) = Unit {0}
IsLast (Ok (Some token)) = ⊥
IsLast (Err fault) = Unit {0}

one_lexing : (text : List ℕ) (at : ℕ) (a b : List Token) (la lb : Result (Option Token) LexFault) → IsLast la → IsLast lb → Lexes text at a la → Lexes text at b lb → (a ≡ b) × (la ≡ lb)
one_lexing text at [] [] la lb p q one other = (refl, one_comes at (drop at text) la lb one other)
one_lexing text at [] (t ∷ b) la lb p q one other =
    absurd (subst IsLast (one_comes at (drop at text) la (Ok (Some t)) one other.0) p)
one_lexing text at (t ∷ a) [] la lb p q one other =
    absurd (subst IsLast (one_comes at (drop at text) lb (Ok (Some t)) other one.0) q)
one_lexing text at (t ∷ a) (u ∷ b) la lb p q one other =
    let first : Ok (Some t) ≡ Ok (Some u) = one_comes at (drop at text) (Ok (Some t)) (Ok (Some u)) one.0 other.0 in
    let same : t ≡ u = cc in
    let later : Lexes text t.end b lb = subst (λ (x : Token). Lexes text x.end b lb) (sym same) other.1 in
    let rest = one_lexing text t.end a b la lb p q one.1 later in
    (ap (λ (x : Token). x ∷ a) same ∙ ap (λ (ts : List Token). u ∷ ts) rest.0, rest.1)

pub one_list : (text : List ℕ) (a b : List Token) → lexes text a → lexes text b → a ≡ b
one_list text a b one other = (one_lexing text 0 a b (Ok None) (Ok None) tt tt one other).0

pub one_fact : (text : List ℕ) (a b : LexFault) → IsFirstFact text a → IsFirstFact text b → a ≡ b
one_fact text a b one other =
    let same : ◌≡◌ {A = Result (Option Token) LexFault} (Err a) (Err b) = (one_lexing text 0 one.0 other.0 (Err a) (Err b) tt tt one.1 other.1).1 in
    cc

pub not_both : (text : List ℕ) (tokens : List Token) (fault : LexFault) → lexes text tokens → IsFirstFact text fault → ⊥
not_both text tokens fault one other =
    let same : ◌≡◌ {A = Result (Option Token) LexFault} (Ok None) (Err fault) = (one_lexing text 0 tokens other.0 (Ok None) (Err fault) tt tt one other.1).1 in
    cc

-- a token ends behind the place, and within the text
pub token_ends : (text : List ℕ) (at : ℕ) (t : Token) → Comes at (drop at text) (Ok (Some t)) → at < t.end
token_ends text at t comes =
    let begins = spelling_begins t.kind comes.stands.spelled comes.stands.spelling in
    omega (arith, comes.stands.end, ap length begins.2)

token_within : (text : List ℕ) (at : ℕ) (t : Token) → Comes at (drop at text) (Ok (Some t)) → at < length text
token_within text at t comes =
    let begins = spelling_begins t.kind comes.stands.spelled comes.stands.spelling in
    omega (arith, ap length begins.2, ap length comes.whole, ap length comes.stands.whole, length-append comes.gap comes.behind, length-append comes.stands.spelled comes.stands.behind, length-drop at text)

abbrev Ends : List ℕ → ℕ → Type 0
Ends text at = (tokens : List Token) × (last : Result (Option Token) LexFault) × IsLast last × Lexes text at tokens last

some_from : (text : List ℕ) (f at : ℕ) → length text ≤ f + at → (answer : Result (Option Token) LexFault) → Comes at (drop at text) answer → Ends text at
some_from text f at enough (Ok None) comes = ([], Ok None, tt, comes)
some_from text f at enough (Err fault) comes = ([], Err fault, tt, comes)
some_from text zero at enough (Ok (Some t)) comes = absurd (omega (arith, token_within text at t comes))
some_from text (suc f) at enough (Ok (Some t)) comes =
    let next = some_comes t.end (drop t.end text) in
    let rest = some_from text f t.end (omega (arith, token_ends text at t comes)) next.0 next.1 in
    (t ∷ rest.0, rest.1, rest.2, (comes, rest.3))

either_of : (text : List ℕ) (tokens : List Token) (last : Result (Option Token) LexFault) → IsLast last → Lexes text 0 tokens last
    → ((tokens : List Token) × lexes text tokens) ⊎ ((fault : LexFault) × IsFirstFact text fault)
either_of text tokens (Ok None) is lexing = inl (tokens, lexing)
either_of text tokens (Ok (Some t)) is lexing = absurd is
either_of text tokens (Err fault) is lexing = inr (fault, (tokens, lexing))

pub tokens_or_fact : (text : List ℕ) → ((tokens : List Token) × lexes text tokens) ⊎ ((fault : LexFault) × IsFirstFact text fault)
tokens_or_fact text =
    let first = some_comes 0 (drop 0 text) in
    let all = some_from text (length text) 0 (omega arith) first.0 first.1 in
    either_of text all.0 all.1 all.2 all.3
