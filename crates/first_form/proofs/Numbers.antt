-- The number of a layer: its digits are those of its value, and those of a value are found again.
use Rattle.std.proofs.Common.{◌≡◌, ℕ, ◌^◌, ◌<◌, ◌≤◌, true, eqb, ltb, leb, not, ◌&&◌, ◌||◌, List, [], length, get_or, Some, refl, sym, ap, subst, ◌∙◌, inl, inr, arith}
use Rattle.std.specs.Char.{is_ascii_digit}
use Rattle.std.specs.Fmt.{decimal}
use Rattle.std.specs.List.{AllPass, list_all}
use Rattle.std.specs.Str.Parse.{digits_value}
use Rattle.std.proofs.Math.Nat.{pow-le-pow_right}
use Rattle.std.proofs.lemmas.Bool.{and_parts, and_from, or_cases, or_left, or_right, not-true, not_from_false, cases_lt, ltb-true, leb-true, lt-ltb, le-leb, eqb-true, eqb-false, eq-eqb, ne_eqb}
use Rattle.std.proofs.lemmas.Fmt.{decimal-digits_value, digits_decimal, digits_value-decimal, decimal_nonempty, length-decimal-le, first_decimal, decimal_digit}
use Rattle.std.proofs.lemmas.Int.Digits.{digits_value-lt}
use Rattle.std.proofs.lemmas.List.{nil_from_length}
use Rattle.std.proofs.lemmas.List.Elements.{All-from_recursion}
use Rattle.std.proofs.lemmas.List.Sums.{AllPass-from_list_all, list_all-from_AllPass}
use Rattle.std.proofs.lemmas.Option.{cond_some}
use Rattle.list_facts.proofs.Texts.{all_digits, digits_pass_each, numerals}
use Rattle.deck_tree.specs.declared.number.Number.{Number}
use Rattle.deck_tree.specs.Plain.{plain_number}
use Rattle.first_form.specs.FirstForm.{number_of}
use Rattle.first_form.specs.Working.Parts.{is_numeral, layer_number}

numeral_plain : (ds : List ℕ) → is_numeral ds ≡ true → decimal (digits_value 10 ds) ≡ ds
unfolding is_numeral
numeral_plain ds fit =
    let o = and_parts (list_all is_ascii_digit ds) (ltb 0 (length ds) && leb (length ds) 5 && (not (eqb (get_or ds 0 0) 48) || eqb (length ds) 1)) fit in
    let pass : AllPass is_ascii_digit ds = AllPass-from_list_all is_ascii_digit ds o.0 in
    let p = and_parts (ltb 0 (length ds) && leb (length ds) 5) (not (eqb (get_or ds 0 0) 48) || eqb (length ds) 1) o.1 in
    let q = and_parts (ltb 0 (length ds)) (leb (length ds) 5) p.0 in
    let some : 0 < length ds = ltb-true 0 (length ds) q.0 in
    let few : length ds ≤ 5 = leb-true (length ds) 5 q.1 in
    let lone : get_or ds 0 0 ≡ 48 → length ds ≡ 1 = λ z. elim (or_cases (not (eqb (get_or ds 0 0) 48)) (eqb (length ds) 1) p.1) [
      | inl n ↦ absurd (eqb-false (get_or ds 0 0) 48 (not-true (eqb (get_or ds 0 0) 48) n) z)
      | inr o ↦ eqb-true (length ds) 1 o
    ] in
    let below : digits_value 10 ds < 10 ^ length ds = digits_value-lt 10 ds (all_digits ds pass) in
    let wide : 10 ^ length ds ≤ 10 ^ 5 = pow-le-pow_right (omega arith) few in
    decimal-digits_value numerals ds (all_digits ds pass) some lone (omega (arith, below, wide))

plain_numeral : (n : ℕ) → n < 65536 → is_numeral (decimal n) ≡ true
unfolding is_numeral
plain_numeral n below =
    let ds : List ℕ = decimal n in
    let wide : n < 2 ^ 64 = omega arith in
    let small : n < 10 ^ 5 = omega arith in
    let pass : AllPass is_ascii_digit ds = All-from_recursion (λ c. is_ascii_digit c ≡ true) ds (digits_pass_each ds (digits_decimal numerals n wide)) in
    let first : (not (eqb (get_or ds 0 0) 48) || eqb (length ds) 1) ≡ true = elim (cases_lt 0 n) [
      | inl above ↦ or_left (not (eqb (get_or ds 0 0) 48)) (eqb (length ds) 1) (not_from_false (eqb (get_or ds 0 0) 48) (ne_eqb (get_or ds 0 0) 48 (λ z. absurd (omega (arith, z, first_decimal n above wide)))))
      | inr none ↦ or_right (not (eqb (get_or ds 0 0) 48)) (eqb (length ds) 1) (eq-eqb (length ds) 1 (ap (λ (x : List ℕ). length x) (decimal_digit n (omega arith))))
    ] in
    let few : (ltb 0 (length ds) && leb (length ds) 5) ≡ true = and_from (ltb 0 (length ds)) (leb (length ds) 5) (lt-ltb 0 (length ds) (decimal_nonempty n wide)) (le-leb (length ds) 5 (length-decimal-le 5 n (omega arith) small wide)) in
    and_from (list_all is_ascii_digit ds) (ltb 0 (length ds) && leb (length ds) 5 && (not (eqb (get_or ds 0 0) 48) || eqb (length ds) 1))
    (list_all-from_AllPass is_ascii_digit ds pass)
    (and_from (ltb 0 (length ds) && leb (length ds) 5) (not (eqb (get_or ds 0 0) 48) || eqb (length ds) 1) few first)

-- the number with the digits of n
abbrev pub spelled : ℕ → Number
spelled n = number_of (record { whole = decimal n; fraction = [] })

-- so many digits that their value can be counted
pub numeral_few : (ds : List ℕ) → is_numeral ds ≡ true → (AllPass is_ascii_digit ds) × (length ds ≤ 5)
unfolding is_numeral
numeral_few ds fit =
    let o = and_parts (list_all is_ascii_digit ds) (ltb 0 (length ds) && leb (length ds) 5 && (not (eqb (get_or ds 0 0) 48) || eqb (length ds) 1)) fit in
    let p = and_parts (ltb 0 (length ds) && leb (length ds) 5) (not (eqb (get_or ds 0 0) 48) || eqb (length ds) 1) o.1 in
    let q = and_parts (ltb 0 (length ds)) (leb (length ds) 5) p.0 in
    (AllPass-from_list_all is_ascii_digit ds o.0, leb-true (length ds) 5 q.1)

pub number_found : (number : Number) (n : ℕ) → layer_number number ≡ Some n → (plain_number number ≡ spelled n) × (n < 65536)
unfolding layer_number
number_found number n e =
    let value : ℕ = digits_value 10 number.whole in
    let g = cond_some (eqb (length number.fraction) 0 && (is_numeral number.whole && ltb value 65536)) value n e in
    let o = and_parts (eqb (length number.fraction) 0) (is_numeral number.whole && ltb value 65536) g.0 in
    let q = and_parts (is_numeral number.whole) (ltb value 65536) o.1 in
    let none : number.fraction ≡ [] = nil_from_length number.fraction (eqb-true (length number.fraction) 0 o.0) in
    let digits : number.whole ≡ decimal n = sym (numeral_plain number.whole q.0) ∙ ap (λ (v : ℕ). decimal v) g.1 in (
      ap (λ (f : List ℕ). number_of (record { whole = number.whole; fraction = f })) none ∙ ap (λ (w : List ℕ). number_of (record { whole = w; fraction = [] })) digits,
      subst (λ (v : ℕ). v < 65536) g.1 (ltb-true value 65536 q.1),
    )

pub number_again : (n : ℕ) → n < 65536 → layer_number (spelled n) ≡ Some n
unfolding layer_number
number_again n below =
    let wide : n < 2 ^ 64 = omega arith in
    rw (plain_numeral n below, digits_value-decimal numerals n wide, lt-ltb n 65536 below) refl
