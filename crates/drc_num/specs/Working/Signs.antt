-- A number by its sign and its size.
use Rattle.std.specs.Prelude.{ℕ, ◌%◌, ◌==◌, Bool, true, false, not, ℤ, pos, negsuc, neg_ℤ}

abbrev pub signed : (negative : Bool) (size : ℕ) → ℤ
signed true size = neg_ℤ (pos size)
signed false size = pos size

-- whether a power of a number is below 0
abbrev pub power_sign : ℤ → (n : ℕ) → Bool
power_sign (pos a) n = false
power_sign (negsuc a) n = not (n % 2 == 0)
