-- Given words, and digits at the front of a text: what is read is spelled so, and what is spelled so is read again.
use Rattle.std.proofs.Common.{◌≡◌, ℕ, ◌+◌, ◌-◌, ◌*◌, ◌^◌, ◌<◌, ◌≤◌, true, false, leb, ltb, eqb, not, ◌&&◌, ◌||◌, List, [], ◌∷◌, ◌++◌, length, get_or, take, drop, Some, refl, sym, ap, subst, ◌∙◌, inl, inr, arith}
use Rattle.std.specs.Char.{is_ascii_digit, digit_value}
use Rattle.std.specs.Fmt.{decimal}
use Rattle.std.specs.List.{AllPass, AllByRecursion, prefix_len}
use Rattle.std.specs.Str.Parse.{digits_value, AllDigits}
use Rattle.std.proofs.Math.Nat.{pow-le-pow_right}
use Rattle.std.proofs.lemmas.Bool.{and_parts, and_from, or_cases, or_left, or_right, not-true, not_from_false, cases_lt, ltb-true, lt-ltb, le-leb, eqb-true, eqb-false, eq-eqb, ne_eqb}
use Rattle.std.proofs.lemmas.Fmt.{digits_decimal, decimal_nonempty, length-decimal-le, first_decimal, decimal_digit}
use Rattle.std.proofs.lemmas.Int.Digits.{digits_value-lt, digits_value_more}
use Rattle.std.proofs.lemmas.List.{take_at, drop_at, take-append-drop, get_or-take}
use Rattle.std.proofs.lemmas.List.Folds.{length-prefix_len}
use Rattle.std.proofs.lemmas.List.Sums.{prefix_len_passes}
use Rattle.std.proofs.lemmas.Option.{cond_some}
use Rattle.std.proofs.lemmas.Str.Parse.{digits_value-take-le}
use Rattle.list_facts.proofs.Texts.{left_takes, left_again, digit_range, digit_is, all_digits, digits_pass_each, numerals}
use Rattle.trace_line.specs.Working.Reading.{after_words, is_numeral, digits_at, numeral_at}

-- ---- given words

pub after_takes : (words bytes rest : List ℕ) → after_words words bytes ≡ Some rest → bytes ≡ words ++ rest
unfolding after_words
after_takes = left_takes

pub after_again : (words rest : List ℕ) → after_words words (words ++ rest) ≡ Some rest
unfolding after_words
after_again = left_again

-- ---- digits

-- no digit follows
abbrev pub NoDigit : List ℕ → Type 0
NoDigit [] = Unit {0}
NoDigit (b ∷ more) = is_ascii_digit b ≡ false

pub taken_are_digits : (bytes : List ℕ) → AllPass is_ascii_digit (digits_at bytes).0
taken_are_digits bytes k d lt =
    let below : k < prefix_len is_ascii_digit bytes = omega (arith, length-prefix_len is_ascii_digit bytes) in
    rw (get_or-take (prefix_len is_ascii_digit bytes) bytes k d below) (prefix_len_passes is_ascii_digit bytes k d below)

digits_len : (ds rest : List ℕ) → AllByRecursion (λ c. is_ascii_digit c ≡ true) ds → NoDigit rest → prefix_len is_ascii_digit (ds ++ rest) ≡ length ds
digits_len [] [] h s = refl
digits_len [] (b ∷ more) h s = rw s refl
digits_len (c ∷ ds) rest h s = rw h.0 (omega (arith, digits_len ds rest h.1 s))

-- one more digit, where there are at most twenty
pub one_more_digit : (ds : List ℕ) (i : ℕ) → i < length ds → length ds ≤ 20 → AllPass is_ascii_digit ds
    → (digits_value 10 (take (i + 1) ds) ≡ digits_value 10 (take i ds) * 10 + (get_or ds i 0 - 48)) × (digits_value 10 (take (i + 1) ds) < 10 ^ 20) × (48 ≤ get_or ds i 0) × (get_or ds i 0 ≤ 57)
one_more_digit ds i lt few pass =
    let r = digit_range (get_or ds i 0) (pass i 0 lt) in
    let step : digits_value 10 (take (i + 1) ds) ≡ digits_value 10 (take i ds) * 10 + digit_value (get_or ds i 0) = digits_value_more 10 ds i lt in
    let below : digits_value 10 ds < 10 ^ length ds = digits_value-lt 10 ds (all_digits ds pass) in
    let wide : 10 ^ length ds ≤ 10 ^ 20 = pow-le-pow_right (omega arith) few in
    let part : digits_value 10 (take (i + 1) ds) ≤ digits_value 10 ds = digits_value-take-le 10 ds (i + 1) (omega arith) in
    (step ∙ ap (λ (d : ℕ). digits_value 10 (take i ds) * 10 + d) (digit_is (get_or ds i 0) r.0 r.1), omega (arith, below, wide, part), r.0, r.1)

-- ---- numerals

-- the digits of a numeral, and what follows it
pub record TakesNumeral (bytes ds rest : List ℕ) : Type 0 where
  pub parts : bytes ≡ ds ++ rest
  pub digits : AllDigits 10 ds
  pub some : 0 < length ds
  pub lone : get_or ds 0 0 ≡ 48 → length ds ≡ 1

numeral_parts : (ds : List ℕ) → is_numeral ds ≡ true → (0 < length ds) × (get_or ds 0 0 ≡ 48 → length ds ≡ 1)
unfolding is_numeral
numeral_parts ds fit =
    let p = and_parts (ltb 0 (length ds) && leb (length ds) 20) (not (eqb (get_or ds 0 0) 48) || eqb (length ds) 1) fit in
    let q = and_parts (ltb 0 (length ds)) (leb (length ds) 20) p.0 in (
      ltb-true 0 (length ds) q.0,
      λ z. elim (or_cases (not (eqb (get_or ds 0 0) 48)) (eqb (length ds) 1) p.1) [
        | inl n ↦ absurd (eqb-false (get_or ds 0 0) 48 (not-true (eqb (get_or ds 0 0) 48) n) z)
        | inr o ↦ eqb-true (length ds) 1 o
      ],
    )

pub numeral_takes : (bytes ds rest : List ℕ) → numeral_at bytes ≡ Some (ds, rest) → TakesNumeral bytes ds rest
unfolding numeral_at
numeral_takes bytes ds rest e =
    let g = cond_some (is_numeral (digits_at bytes).0) (digits_at bytes) (ds, rest) e in
    let parts = numeral_parts (digits_at bytes).0 g.0 in
    subst (λ (y : List ℕ × List ℕ). TakesNumeral bytes y.0 y.1) g.1
    (record { parts = sym (take-append-drop (prefix_len is_ascii_digit bytes) bytes); digits = all_digits (digits_at bytes).0 (taken_are_digits bytes); some = parts.0; lone = parts.1 })

decimal_is_numeral : (n : ℕ) → n < 2 ^ 64 → is_numeral (decimal n) ≡ true
unfolding is_numeral
decimal_is_numeral n wide =
    let ds : List ℕ = decimal n in
    let first : (not (eqb (get_or ds 0 0) 48) || eqb (length ds) 1) ≡ true = elim (cases_lt 0 n) [
      | inl above ↦ or_left (not (eqb (get_or ds 0 0) 48)) (eqb (length ds) 1) (not_from_false (eqb (get_or ds 0 0) 48) (ne_eqb (get_or ds 0 0) 48 (λ z. absurd (omega (arith, z, first_decimal n above wide)))))
      | inr none ↦ or_right (not (eqb (get_or ds 0 0) 48)) (eqb (length ds) 1) (eq-eqb (length ds) 1 (ap (λ (x : List ℕ). length x) (decimal_digit n (omega arith))))
    ] in
    and_from (ltb 0 (length ds) && leb (length ds) 20) (not (eqb (get_or ds 0 0) 48) || eqb (length ds) 1)
    (and_from (ltb 0 (length ds)) (leb (length ds) 20) (lt-ltb 0 (length ds) (decimal_nonempty n wide)) (le-leb (length ds) 20 (length-decimal-le 20 n (omega arith) (omega arith) wide)))
    first

pub numeral_again : (n : ℕ) (rest : List ℕ) → n < 2 ^ 64 → NoDigit rest → numeral_at (decimal n ++ rest) ≡ Some (decimal n, rest)
unfolding numeral_at
numeral_again n rest wide stops =
    let run = digits_pass_each (decimal n) (digits_decimal numerals n wide) in
    let k : length (decimal n) ≡ prefix_len is_ascii_digit (decimal n ++ rest) = sym (digits_len (decimal n) rest run stops) in
    let t : take (prefix_len is_ascii_digit (decimal n ++ rest)) (decimal n ++ rest) ≡ decimal n = take_at (decimal n) rest _ k in
    let d : drop (prefix_len is_ascii_digit (decimal n ++ rest)) (decimal n ++ rest) ≡ rest = drop_at (decimal n) rest _ k in
    rw (t, d, decimal_is_numeral n wide) refl
