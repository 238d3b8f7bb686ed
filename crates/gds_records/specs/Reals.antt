-- Eight-byte reals (GDSII Stream Format, Release 6): a sign bit, seven bits of exponent e in excess 64, and 56 bits of
-- fraction m. The value is m / 2^56 * 16^(e - 64), so numerator / scale with one scale for all. It need not be normalized.
use Rattle.std.specs.Prelude.{◌≡◌, ℕ, ◌*◌, ◌%◌, ◌^◌, ◌≤◌, ℤ, pos, neg_ℤ, ◌-ℤ◌, unsigned_abs, nat_le, if◌then◌else◌, slice_index}
use Rattle.byteorder.specs.Endian.{big_from}
use Rattle.gds_records.specs.declared.real.Real8.{Real8}

abbrev pub sign_byte : Real8 → ℕ
sign_byte r = slice_index r.bytes 0

-- the exponent, in excess 64
abbrev pub exponent : Real8 → ℕ
exponent r = sign_byte r % 128

-- the fraction, times 2^56
abbrev pub fraction : Real8 → ℕ
fraction r = big_from 1 7 r.bytes

-- 2^56 * 16^64
abbrev pub scale : ℕ
scale = 2 ^ 312

-- the value without its sign, times the scale
abbrev pub magnitude : Real8 → ℕ
magnitude r = fraction r * 2 ^ (4 * exponent r)

-- a magnitude with its sign
abbrev pub signed : Real8 → ℕ → ℤ
signed r n = if nat_le 128 (sign_byte r) then neg_ℤ (pos n) else pos n

-- the value is this whole number
pub record IsValue (r : Real8) (n : ℤ) : Type 0 where
  pub size : ℕ
  pub scaled : size * scale ≡ magnitude r
  pub sign : n ≡ signed r size

-- the value times the precision differs from 1 by at most 2^-30
abbrev pub IsNearInverse : Real8 → (precision : ℕ) → Type 0
IsNearInverse r precision = unsigned_abs (signed r (magnitude r * precision) -ℤ pos scale) * 2 ^ 30 ≤ scale
