-- The kind of a token is told by its first byte.
use Rattle.std.proofs.Common.{◌≡◌, ℕ, ◌<◌, ◌⊎◌, inl, inr, true, false, eqb, ◌||◌, List, [], ◌∷◌, ◌++◌, length, refl, ap, ◌∙◌, arith}
use Rattle.std.specs.List.{list_all}
use Rattle.std.proofs.lemmas.Bool.{and_parts}
use Rattle.std.proofs.lemmas.Bool.Decides.{nat_tests}
use Rattle.deck_lexer.specs.declared.token.TokenKind.{TokenKind}
use Rattle.deck_lexer.specs.declared.token.TokenKind.TheVariants as kinds
use Rattle.deck_lexer.specs.Bytes.{is_blank, is_digit, begins_word, is_sign, begins_comparison}
use Rattle.deck_lexer.specs.Tokens.{IsSpelling}
use Rattle.deck_lexer.specs.Working.Reading.{kind_of}

-- a byte that begins a token of this kind
pub record Begins (kind : TokenKind) (c : ℕ) : Type 0 where
  pub kind_is : kind_of c ≡ kind
  pub no_blank : is_blank c ≡ false

word_begins : (c : ℕ) → begins_word c ≡ true → Begins kinds.Word c
word_begins c is = record { kind_is = rw is refl; no_blank = grind (arith, nat_tests) }

digit_no_word : (c : ℕ) → is_digit c ≡ true → begins_word c ≡ false
digit_no_word c is = grind (arith, nat_tests)

digit_no_blank : (c : ℕ) → is_digit c ≡ true → is_blank c ≡ false
digit_no_blank c is = grind (arith, nat_tests)

digit_begins : (c : ℕ) → is_digit c ≡ true → Begins kinds.Number c
digit_begins c is = record { kind_is = rw (digit_no_word c is, is) refl; no_blank = digit_no_blank c is }

sign_no_word : (c : ℕ) → is_sign c ≡ true → begins_word c ≡ false
sign_no_word c is = grind (arith, nat_tests)

sign_no_digit : (c : ℕ) → is_sign c ≡ true → (is_digit c || eqb c 46) ≡ false
sign_no_digit c is = grind (arith, nat_tests)

sign_no_mark : (c : ℕ) → is_sign c ≡ true → (eqb c 34 ≡ false) × (eqb c 64 ≡ false) × (is_blank c ≡ false)
sign_no_mark c is = (grind (arith, nat_tests), grind (arith, nat_tests), grind (arith, nat_tests))

sign_begins : (c : ℕ) → is_sign c ≡ true → Begins kinds.Sign c
sign_begins c is =
    let marks = sign_no_mark c is in
    record { kind_is = rw (sign_no_word c is, sign_no_digit c is, marks.0, marks.1) refl; no_blank = marks.2 }

-- `!` begins no sign of one byte
comparison_is : (c : ℕ) → begins_comparison c ≡ true → (is_sign c ≡ true) ⊎ (c ≡ 33)
comparison_is c is = grind (arith, nat_tests)

comparison_begins : (c : ℕ) → begins_comparison c ≡ true → Begins kinds.Sign c
comparison_begins c is =
    elim (comparison_is c is) [
      | inl sign ↦ sign_begins c sign
      | inr mark ↦ rw mark (record { kind_is = refl; no_blank = refl })
    ]

-- what a token begins with
abbrev pub BeginsWith : TokenKind → List ℕ → Type 0
BeginsWith kind s = (c : ℕ) × (more : List ℕ) × (s ≡ c ∷ more) × Begins kind c

number_begins : (whole fraction s : List ℕ) → list_all is_digit whole ≡ true → ((s ≡ whole) × (0 < length whole)) ⊎ (s ≡ whole ++ 46 ∷ fraction) → BeginsWith kinds.Number s
number_begins [] fraction s digits (inl plain) = absurd (omega (arith, plain.1))
number_begins [] fraction s digits (inr point) = (46, fraction, point, record { kind_is = refl; no_blank = refl })
number_begins (c ∷ whole) fraction s digits (inl plain) = (c, whole, plain.0, digit_begins c (and_parts (is_digit c) (list_all is_digit whole) digits).0)
number_begins (c ∷ whole) fraction s digits (inr point) = (c, whole ++ 46 ∷ fraction, point, digit_begins c (and_parts (is_digit c) (list_all is_digit whole) digits).0)

pub spelling_begins : (kind : TokenKind) (s : List ℕ) → IsSpelling kind s → BeginsWith kind s
spelling_begins kinds.Word s (c, more, whole, begins, continues) = (c, more, whole, word_begins c begins)
spelling_begins kinds.Number s (whole, fraction, digits, more, either) =
    number_begins whole fraction s digits (elim either [ inl plain ↦ inl plain | inr point ↦ inr point.0 ])
spelling_begins kinds.Text s (body, whole, fine) = (34, body ++ 34 ∷ [], whole, record { kind_is = refl; no_blank = refl })
spelling_begins kinds.Sign s (c, either) =
    elim either as (λ _. BeginsWith kinds.Sign s) [
      | inl one ↦ (c, [], one.0, sign_begins c one.1)
      | inr two ↦ (c, 61 ∷ [], two.0, comparison_begins c two.1)
    ]
spelling_begins kinds.Note s (body, whole, fine) = (64, body, whole, record { kind_is = refl; no_blank = refl })

-- where bytes begin with a token of a kind, their first byte tells the kind
pub kind_at_front : (kind : TokenKind) (c : ℕ) (more s behind : List ℕ) → c ∷ more ≡ s ++ behind → IsSpelling kind s → kind_of c ≡ kind
kind_at_front kind c more s behind whole is =
    let begins = spelling_begins kind s is in
    let parts : c ∷ more ≡ begins.0 ∷ (begins.1 ++ behind) = whole ∙ ap (λ (t : List ℕ). t ++ behind) begins.2 in
    let same : c ≡ begins.0 = cc in
    ap kind_of same ∙ begins.3.kind_is
