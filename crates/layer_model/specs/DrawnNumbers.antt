-- Which layer numbers of a deck a shape of the layout goes to, by its layer and data type there and by the rows of LAYER MAP.
-- A pair that some row names goes to the targets of all rows that name it and to no other number; any other pair goes to the
-- number of its layer.
--
--     rows 7 DATATYPE 0 -> 31 and 7 DATATYPE 0 -> 32: the pair 7, 0 goes to 31 and 32, and the pair 7, 1 to 7
use Rattle.std.specs.Prelude.{ℕ, ◌-◌, ℤ, pos, negsuc, Bool, ◌&&◌, ◌==◌, if◌then◌else◌, List}
use Rattle.std.specs.List.{list_any}
use Rattle.layer_model.specs.declared.map_row.MapRow.{MapRow}

-- The number that a layer or data type of the layout counts as. A negative one counts as itself plus 65,536.
abbrev pub number_of : ℤ → ℕ
number_of (pos n) = n
number_of (negsuc n) = 65535 - n

-- the row is one for this layer and data type
abbrev pub names : (layer datatype : ℕ) → MapRow → Bool
names layer datatype row = (row.layer == layer) && (row.datatype == datatype)

-- whether shapes of the layer and data type, as they count, go to the number
abbrev pub goes_to : List MapRow → (layer datatype number : ℕ) → Bool
goes_to rows layer datatype number =
    if list_any (names layer datatype) rows then list_any (λ row. names layer datatype row && (row.target == number)) rows else (layer == number)

-- whether shapes with a layer and data type of the layout go to the number
abbrev pub gives : List MapRow → (layer datatype : ℤ) → (number : ℕ) → Bool
gives rows layer datatype number = goes_to rows (number_of layer) (number_of datatype) number

-- what is read of a layout: the rows of LAYER MAP, and the numbers to which a shape has to go, in any order
pub record Reading : Type 0 where
  pub maps : List MapRow
  pub numbers : List ℕ

-- whether shapes with a layer and data type of the layout are read
abbrev pub takes : Reading → (layer datatype : ℤ) → Bool
takes reading layer datatype = list_any (gives reading.maps layer datatype) reading.numbers
