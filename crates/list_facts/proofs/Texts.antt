-- Texts: given words at the front, digits, and bytes that differ.
use Rattle.std.proofs.Common.{◌≡◌, ℕ, ◌-◌, ◌≤◌, true, false, leb, if◌then◌else◌, Option, Some, None, List, [], ◌∷◌, ◌++◌, length, take, drop, refl, sym, ap, arith}
use Rattle.std.specs.Char.{is_ascii_digit, digit_value}
use Rattle.std.specs.List.{AllPass, AllByRecursion}
use Rattle.std.specs.Str.{bytes_eq}
use Rattle.std.specs.Str.Parse.{digits_value, AllDigits}
use Rattle.std.proofs.lemmas.Bool.{and_parts, and_from, false_from_ne_true, leb-true, lt-ltb, le-ltb, le-leb}
use Rattle.std.proofs.lemmas.List.{take_at, drop_at, take-append-drop}
use Rattle.std.proofs.lemmas.List.Elements.{recursion_from_All}
use Rattle.std.proofs.lemmas.Option.{cond_some}
use Rattle.std.proofs.lemmas.Slice.Eq.{bytes_eq-Decides}
use Rattle.std.proofs.lemmas.Str.Parse.{IsNumeralModel, numerals_by_value, tells_digits, digit_from_value}

pub bytes_apart : (a b : List ℕ) → bytes_eq a b ≡ false → bytes_eq b a ≡ false
bytes_apart a b differ = false_from_ne_true (bytes_eq b a) (λ same.
    let back : bytes_eq a b ≡ true = (bytes_eq-Decides a b).1 (sym ((bytes_eq-Decides b a).0 same)) in cc)

-- ---- given words

-- what a text leaves behind words at its front
abbrev pub left_behind : List ℕ → List ℕ → Option (List ℕ)
left_behind words bytes = if bytes_eq (take (length words) bytes) words then Some (drop (length words) bytes) else None

pub left_takes : (words bytes rest : List ℕ) → left_behind words bytes ≡ Some rest → bytes ≡ words ++ rest
left_takes words bytes rest e =
    let g = cond_some (bytes_eq (take (length words) bytes) words) (drop (length words) bytes) rest e in
    let t : take (length words) bytes ≡ words = (bytes_eq-Decides (take (length words) bytes) words).0 g.0 in
    let s : take (length words) bytes ++ drop (length words) bytes ≡ bytes = take-append-drop (length words) bytes in
    let d : drop (length words) bytes ≡ rest = g.1 in
    cc

pub left_again : (words rest : List ℕ) → left_behind words (words ++ rest) ≡ Some rest
left_again words rest =
    let t : take (length words) (words ++ rest) ≡ words = take_at words rest (length words) refl in
    let d : drop (length words) (words ++ rest) ≡ rest = drop_at words rest (length words) refl in
    let g : bytes_eq (take (length words) (words ++ rest)) words ≡ true = (bytes_eq-Decides (take (length words) (words ++ rest)) words).1 t in
    rw g (ap (λ (x : List ℕ). Some x) d)

-- ---- digits

pub digit_range : (c : ℕ) → is_ascii_digit c ≡ true → (48 ≤ c) × (c ≤ 57)
digit_range c h = let both = and_parts (leb 48 c) (leb c 57) h in (leb-true 48 c both.0, leb-true c 57 both.1)

pub digit_is : (c : ℕ) → 48 ≤ c → c ≤ 57 → digit_value c ≡ c - 48
digit_is c low high = rw (le-ltb c 48 low, lt-ltb c 58 (omega arith)) refl

digits_run : (ds : List ℕ) → AllByRecursion (λ c. is_ascii_digit c ≡ true) ds → AllDigits 10 ds
digits_run [] h = tt
digits_run (c ∷ cs) h =
    let r = digit_range c h.0 in
    (omega (arith, r.0, r.1, digit_is c r.0 r.1), digits_run cs h.1)

pub all_digits : (ds : List ℕ) → AllPass is_ascii_digit ds → AllDigits 10 ds
all_digits ds h = digits_run ds (recursion_from_All (λ c. is_ascii_digit c ≡ true) ds h)

pub digits_pass_each : (ds : List ℕ) → AllDigits 10 ds → AllByRecursion (λ c. is_ascii_digit c ≡ true) ds
digits_pass_each [] h = tt
digits_pass_each (c ∷ cs) h =
    let r = digit_from_value c h.0 in
    (and_from (leb 48 c) (leb c 57) (le-leb 48 c r.0) (le-leb c 57 r.1), digits_pass_each cs h.1)

-- digits are numerals by their value
pub numerals : IsNumeralModel (AllDigits 10) (digits_value 10)
numerals = numerals_by_value (AllDigits 10) tells_digits
