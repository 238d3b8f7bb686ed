-- What digits are worth, one digit after the other.
use Rattle.std.proofs.Common.{◌≡◌, ℕ, ◌+◌, ◌-◌, ◌*◌, ◌^◌, ◌<◌, ◌≤◌, List, length, get_or, take, ap, ◌∙◌, arith}
use Rattle.std.specs.Char.{is_ascii_digit, digit_value}
use Rattle.std.specs.List.{AllPass}
use Rattle.std.specs.Str.Parse.{digits_value}
use Rattle.std.proofs.Math.Nat.{pow-le-pow_right}
use Rattle.std.proofs.lemmas.Int.Digits.{digits_value-lt, digits_value_more}
use Rattle.std.proofs.lemmas.Str.Parse.{digits_value-take-le}
use Rattle.list_facts.proofs.Texts.{digit_range, digit_is, all_digits}

-- one more digit, where there are at most nine
pub one_more_digit : (ds : List ℕ) (i : ℕ) → i < length ds → length ds ≤ 9 → AllPass is_ascii_digit ds
    → (digits_value 10 (take (i + 1) ds) ≡ digits_value 10 (take i ds) * 10 + (get_or ds i 0 - 48)) × (digits_value 10 (take (i + 1) ds) < 1000000000) × (48 ≤ get_or ds i 0) × (get_or ds i 0 ≤ 57)
one_more_digit ds i lt few pass =
    let r = digit_range (get_or ds i 0) (pass i 0 lt) in
    let step : digits_value 10 (take (i + 1) ds) ≡ digits_value 10 (take i ds) * 10 + digit_value (get_or ds i 0) = digits_value_more 10 ds i lt in
    let below : digits_value 10 ds < 10 ^ length ds = digits_value-lt 10 ds (all_digits ds pass) in
    let wide : 10 ^ length ds ≤ 10 ^ 9 = pow-le-pow_right (omega arith) few in
    let part : digits_value 10 (take (i + 1) ds) ≤ digits_value 10 ds = digits_value-take-le 10 ds (i + 1) (omega arith) in
    (step ∙ ap (λ (d : ℕ). digits_value 10 (take i ds) * 10 + d) (digit_is (get_or ds i 0) r.0 r.1), omega (arith, below, wide, part), r.0, r.1)

pub six_digits : (ds : List ℕ) → length ds ≤ 6 → AllPass is_ascii_digit ds → digits_value 10 ds < 1000000
six_digits ds few pass =
    let below : digits_value 10 ds < 10 ^ length ds = digits_value-lt 10 ds (all_digits ds pass) in
    let wide : 10 ^ length ds ≤ 10 ^ 6 = pow-le-pow_right (omega arith) few in
    omega (arith, below, wide)
