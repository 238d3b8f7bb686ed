-- What some records of an element say, by the type of the record: its LAYER is the number in the record LAYER. No line of
-- the grammar has a type twice, but for properties. Where data are too short for what they should say, which no good
-- record's are, it is 0.
use Rattle.std.specs.Prelude.{ℕ, ◌+◌, ◌*◌, ◌/◌, ◌==◌, nat_le, if◌then◌else◌, List, [], ◌∷◌, ◌++◌, length, take, drop, zero, suc, Option, Some, None, ℤ, pos}
use Rattle.std.specs.Option.{option_map, option_map_or}
use Rattle.gds_records.specs.declared.record_type.RecordType.{RecordType}
use Rattle.gds_records.specs.declared.real.Real8.{Real8}
use Rattle.gds_records.specs.RecordTypes.{code_of}
use Rattle.gds_records.specs.Records.{Item}
use Rattle.gds_values.specs.Values.{number_at, long_at}
use Rattle.gds_library.specs.declared.element.Point.{Point}
use Rattle.gds_library.specs.declared.element.Given.{Given}
use Rattle.gds_library.specs.declared.element.Counts.{Counts}

-- the first record of this type
abbrev pub find : RecordType → List Item → Option Item
find type [] = None
find type (item ∷ items) = if item.kind == code_of type then Some item else find type items

-- its data, and its offset
abbrev pub data_of : RecordType → List Item → List ℕ
data_of type items = option_map_or (λ item. item.body) (find type items) []

abbrev pub offset_of : RecordType → List Item → ℕ
offset_of type items = option_map_or (λ item. item.at) (find type items) 0

-- what its data say, and its offset, where there is such a record
abbrev pub given : {V : Type 0} → (says : List ℕ → V) → RecordType → List Item → Option (Given V)
given says type items = option_map (λ item. record { at = item.at; value = says item.body }) (find type items)

-- ---- What data say

-- the number of two bytes at an index, and that of four bytes
abbrev pub number : ℕ → List ℕ → ℤ
number index body = if nat_le (2 * index + 2) (length body) then number_at index body else pos 0

abbrev pub long : ℕ → List ℕ → ℤ
long index body = if nat_le (4 * index + 4) (length body) then long_at index body else pos 0

abbrev pub counts : List ℕ → Counts
counts body = record { columns = number 0 body; rows = number 1 body }

-- the real of eight bytes at an index
abbrev pub real : ℕ → List ℕ → Real8
real index body =
    if nat_le (8 * index + 8) (length body) then record { bytes = take 8 (drop (8 * index) body) }
    else record { bytes = 0 ∷ 0 ∷ 0 ∷ 0 ∷ 0 ∷ 0 ∷ 0 ∷ 0 ∷ [] }

-- the point at an index
abbrev pub point : ℕ → List ℕ → Point
point index body = record { x = long_at (2 * index) body; y = long_at (2 * index + 1) body }

-- so many points, and all
abbrev pub first_points : ℕ → List ℕ → List Point
first_points zero body = []
first_points (suc count) body = first_points count body ++ point count body ∷ []

abbrev pub points : List ℕ → List Point
points body = first_points (length body / 8) body

-- the text without its trailing NUL bytes
abbrev pub padded : ℕ → List ℕ → List ℕ
padded byte [] = if byte == 0 then [] else byte ∷ []
padded byte (next ∷ rest) = byte ∷ next ∷ rest

abbrev pub name : List ℕ → List ℕ
name [] = []
name (byte ∷ text) = padded byte (name text)
