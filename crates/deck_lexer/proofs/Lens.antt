-- The lengths of the longest spellings: what so many bytes are, and that no spelling is longer.
use Rattle.std.proofs.Common.{◌≡◌, ℕ, ◌+◌, ◌<◌, ◌≤◌, inl, inr, true, false, cond, eqb, ltb, ◌&&◌, List, [], ◌∷◌, ◌++◌, length, take, drop, refl, sym, ap, ◌∙◌, arith, append_assoc, length-append}
use Rattle.std.specs.List.{prefix_len, list_all}
use Rattle.std.proofs.lemmas.Bool.{and_parts, eqb-true, lt-ltb, ltb-true, cases_Bool}
use Rattle.std.proofs.lemmas.Bool.Decides.{nat_tests}
use Rattle.std.proofs.lemmas.List.{drop_at}
use Rattle.std.proofs.lemmas.List.Folds.{length-prefix_len}
use Rattle.deck_lexer.specs.Bytes.{is_digit, is_text_byte, is_sign, begins_comparison}
use Rattle.deck_lexer.specs.Tokens.{IsNumber, IsSign, closes_on_line}
use Rattle.deck_lexer.specs.Working.Reading.{with_point, number_len, sign_len}
use Rattle.deck_lexer.proofs.Spans.{span_passes, span_len, span_holds, span_parts}

-- ---- Numbers

-- the first so many bytes are a number
abbrev pub TakesNumber : List ℕ → ℕ → Type 0
TakesNumber bytes n = (s behind : List ℕ) × (bytes ≡ s ++ behind) × IsNumber s × (n ≡ length s)

whole_only : (bytes : List ℕ) → 0 < prefix_len is_digit bytes → TakesNumber bytes (prefix_len is_digit bytes)
whole_only bytes some =
    let front = take (prefix_len is_digit bytes) bytes in
    let size : length front ≡ prefix_len is_digit bytes = length-prefix_len is_digit bytes in
    (front, drop (prefix_len is_digit bytes) bytes, span_parts is_digit bytes, (front, [], span_passes is_digit bytes, refl, inl (refl, omega arith)), sym size)

point_takes : (bytes rest : List ℕ) → rest ≡ drop (prefix_len is_digit bytes) bytes → 0 < with_point (prefix_len is_digit bytes) rest → TakesNumber bytes (with_point (prefix_len is_digit bytes) rest)
point_takes bytes [] e some = whole_only bytes some
point_takes bytes (c ∷ more) e some =
    let whole = prefix_len is_digit bytes in
    let fraction = prefix_len is_digit more in
    elim (cases_Bool (eqb c 46 && ltb 0 (whole + fraction))) as (λ _. TakesNumber bytes (with_point whole (c ∷ more))) [
      | inl holds ↦
          let both = and_parts (eqb c 46) (ltb 0 (whole + fraction)) holds in
          let point : c ≡ 46 = eqb-true c 46 both.0 in
          let there : 0 < whole + fraction = ltb-true 0 (whole + fraction) both.1 in
          let front = take whole bytes in
          let back = take fraction more in
          let front_size : length front ≡ whole = length-prefix_len is_digit bytes in
          let back_size : length back ≡ fraction = length-prefix_len is_digit more in
          let s = front ++ 46 ∷ back in
          let behind : 46 ∷ more ≡ (46 ∷ back) ++ drop fraction more = ap (λ (t : List ℕ). 46 ∷ t) (span_parts is_digit more) in
          let rest : drop whole bytes ≡ 46 ∷ more = sym e ∙ ap (λ (x : ℕ). x ∷ more) point in
          let text : bytes ≡ s ++ drop fraction more =
          span_parts is_digit bytes ∙ ap (λ (t : List ℕ). front ++ t) (rest ∙ behind) ∙ sym (append_assoc front (46 ∷ back) (drop fraction more)) in
          rw holds (s, drop fraction more, text, (front, back, span_passes is_digit bytes, span_passes is_digit more, inr (refl, omega arith)), omega (arith, length-append front (46 ∷ back), front_size, back_size))
      | inr fails ↦
          let there : 0 < whole = rw fails at some in
          rw fails (whole_only bytes there)
    ]

pub number_takes : (bytes : List ℕ) → 0 < number_len bytes → TakesNumber bytes (number_len bytes)
unfolding number_len
number_takes bytes some = point_takes bytes (drop (prefix_len is_digit bytes) bytes) refl some

with_point_least : (whole : ℕ) (rest : List ℕ) → whole ≤ with_point whole rest
with_point_least whole [] = omega arith
with_point_least whole (c ∷ more) =
    elim (cases_Bool (eqb c 46 && ltb 0 (whole + prefix_len is_digit more))) as (λ _. whole ≤ with_point whole (c ∷ more)) [
      | inl holds ↦ rw holds (omega arith)
      | inr fails ↦ rw fails (omega arith)
    ]

with_point_most : (whole : ℕ) (fraction more : List ℕ) → list_all is_digit fraction ≡ true → 0 < whole + length fraction
    → whole + 1 + length fraction ≤ with_point whole (46 ∷ (fraction ++ more))
with_point_most whole fraction more digits some =
    let holds : length fraction ≤ prefix_len is_digit (fraction ++ more) = span_holds is_digit fraction more digits in
    let there : ltb 0 (whole + prefix_len is_digit (fraction ++ more)) ≡ true = lt-ltb _ _ (omega arith) in
    rw there (omega arith)

-- no number at the front is longer
pub number_most : (s behind : List ℕ) → IsNumber s → length s ≤ number_len (s ++ behind)
unfolding number_len
number_most s behind (whole, fraction, digits, more, inl plain) =
    let text : s ++ behind ≡ whole ++ behind = ap (λ (t : List ℕ). t ++ behind) plain.0 in
    let least : length whole ≤ prefix_len is_digit (whole ++ behind) = span_holds is_digit whole behind digits in
    let size : length s ≡ length whole = ap length plain.0 in
    let all = with_point_least (prefix_len is_digit (whole ++ behind)) (drop (prefix_len is_digit (whole ++ behind)) (whole ++ behind)) in
    rw text (omega (arith, all, least, size))
number_most s behind (whole, fraction, digits, more, inr point) =
    let text : s ++ behind ≡ whole ++ 46 ∷ (fraction ++ behind) = ap (λ (t : List ℕ). t ++ behind) point.0 ∙ append_assoc whole (46 ∷ fraction) behind in
    let len : prefix_len is_digit (whole ++ 46 ∷ (fraction ++ behind)) ≡ length whole = span_len is_digit whole (46 ∷ (fraction ++ behind)) digits refl in
    let rest : drop (prefix_len is_digit (whole ++ 46 ∷ (fraction ++ behind))) (whole ++ 46 ∷ (fraction ++ behind)) ≡ 46 ∷ (fraction ++ behind) = drop_at whole _ _ (sym len) in
    let size : length s ≡ length whole + 1 + length fraction = omega (arith, ap length point.0, length-append whole (46 ∷ fraction)) in
    rw (text, rest, len) (omega (arith, size, with_point_most (length whole) fraction behind more point.1))

-- ---- Signs

abbrev pub TakesSign : List ℕ → ℕ → Type 0
TakesSign bytes n = (s behind : List ℕ) × (bytes ≡ s ++ behind) × IsSign s × (n ≡ length s)

single_takes : (c : ℕ) (more : List ℕ) → 0 < cond (is_sign c) 1 0 → TakesSign (c ∷ more) (cond (is_sign c) 1 0)
single_takes c more some =
    elim (cases_Bool (is_sign c)) as (λ _. TakesSign (c ∷ more) (cond (is_sign c) 1 0)) [
      | inl holds ↦ rw holds (c ∷ [], more, refl, (c, inl (refl, holds)), refl)
      | inr fails ↦ let nothing : 0 < 0 = rw fails at some in absurd (omega arith)
    ]

pub sign_takes : (bytes : List ℕ) → 0 < sign_len bytes → TakesSign bytes (sign_len bytes)
sign_takes [] some = absurd (omega arith)
sign_takes (c ∷ []) some = single_takes c [] some
sign_takes (c ∷ d ∷ more) some =
    elim (cases_Bool (begins_comparison c && eqb d 61)) as (λ _. TakesSign (c ∷ d ∷ more) (sign_len (c ∷ d ∷ more))) [
      | inl holds ↦
          let both = and_parts (begins_comparison c) (eqb d 61) holds in
          let equal : d ≡ 61 = eqb-true d 61 both.1 in
          rw holds (c ∷ 61 ∷ [], more, ap (λ (x : ℕ). c ∷ x ∷ more) equal, (c, inr (refl, both.0)), refl)
      | inr fails ↦
          let there : 0 < cond (is_sign c) 1 0 = rw fails at some in
          rw fails (single_takes c (d ∷ more) there)
    ]

one_least : (c : ℕ) (more : List ℕ) → is_sign c ≡ true → 1 ≤ sign_len (c ∷ more)
one_least c [] is = rw is (omega arith)
one_least c (d ∷ more) is =
    elim (cases_Bool (begins_comparison c && eqb d 61)) as (λ _. 1 ≤ sign_len (c ∷ d ∷ more)) [
      | inl holds ↦ rw holds (omega arith)
      | inr fails ↦ rw (fails, is) (omega arith)
    ]

-- no sign at the front is longer
pub sign_most : (s behind : List ℕ) → IsSign s → length s ≤ sign_len (s ++ behind)
sign_most s behind (c, inl one) = rw one.0 (one_least c behind one.1)
sign_most s behind (c, inr two) = rw (two.0, two.1) (omega arith)

-- ---- Texts

text_byte_apart : (c : ℕ) → is_text_byte c ≡ true → (eqb c 34 ≡ false) × (eqb c 10 ≡ false)
text_byte_apart c is = (grind (arith, nat_tests), grind (arith, nat_tests))

-- bytes that a text can hold don't close it
pub closes_behind : (body rest : List ℕ) → list_all is_text_byte body ≡ true → closes_on_line (body ++ rest) ≡ closes_on_line rest
closes_behind [] rest fine = refl
closes_behind (c ∷ body) rest fine =
    let both = and_parts (is_text_byte c) (list_all is_text_byte body) fine in
    let apart = text_byte_apart c both.0 in
    rw (apart.0, apart.1) (closes_behind body rest both.1)
