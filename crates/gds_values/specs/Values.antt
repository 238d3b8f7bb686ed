-- What the data of a record say (GDSII Stream Format, Release 6): numbers of two and four bytes in two's complement, high
-- byte first, points of two numbers, and texts that may be padded with NUL bytes.
use Rattle.std.specs.Prelude.{◌≡◌, ◌≢◌, ℕ, ◌+◌, ◌-◌, ◌*◌, List, length, take, drop, slice_get, All, Some, ℤ}
use Rattle.std.specs.Int.{cast_signed, w16, w32}
use Rattle.byteorder.specs.Endian.{big_number}
use Rattle.drc_geom.specs.declared.point.Pt.{Pt}

-- the number of two bytes at an index
unfoldable pub number_at : (index : ℕ) → List ℕ → ℤ
number_at index body = cast_signed w16 (big_number 2 (drop (2 * index) body))

-- the number of four bytes at an index
unfoldable pub long_at : (index : ℕ) → List ℕ → ℤ
long_at index body = cast_signed w32 (big_number 4 (drop (4 * index) body))

-- the point at an index
abbrev pub point_at : (index : ℕ) → List ℕ → Pt
point_at index body = record { x = long_at (2 * index) body; y = long_at (2 * index + 1) body }

-- the text without its trailing NUL bytes is the name: the name stands first, then NUL bytes alone, and the name
-- itself doesn't end with one
pub record IsPadded (name text : List ℕ) : Type 0 where
  pub first : take (length name) text ≡ name
  pub nulls : All (λ byte. byte ≡ 0) (drop (length name) text)
  pub whole : slice_get name (length name - 1) ≢ Some 0
