-- Sets of units. Unit (x, y, side) is a side of square (x, y). North is towards greater y.
--
--           N            A level side, N or S, has its column along x and its line across y: (x, y, N) lies in column x
--        +-----+         on line y + 1, and (x, y, S) on line y.
--      W |(x,y)| E       An upright side, E or W, is the same with x and y in each other's place: (x, y, E) lies in
--        +-----+         column y on line x + 1, and (x, y, W) on line x.
--           S
use Rattle.std.specs.Prelude.{◌≡◌, Bool, not, ◌&&◌, ℤ, pos, ◌+ℤ◌, ◌-ℤ◌}
use Rattle.drc_geom.specs.declared.unit.Side.{Side}
use Rattle.drc_geom.specs.declared.unit.Side.TheVariants.{N, E, S, W}
use Rattle.drc_geom.specs.Squares.{Squares}

-- which units a set has
abbrev pub Units : Type 0
Units = ℤ → ℤ → Side → Bool

-- two sets have the same units
abbrev pub AreSameUnits : Units → Units → Type 0
AreSameUnits a b = (x y : ℤ) → (side : Side) → a x y side ≡ b x y side

-- The one turning of the plane: the number of a pair that counts along a side, and the one that counts across it.
-- For an upright side the two change places; turned twice they are as they were.
abbrev pub along : Side → (x y : ℤ) → ℤ
along N x y = x
along S x y = x
along E x y = y
along W x y = y

abbrev pub across : Side → (x y : ℤ) → ℤ
across N x y = y
across S x y = y
across E x y = x
across W x y = x

-- the line of a side of the square that has this number across the side, and back
abbrev pub line_at : Side → ℤ → ℤ
line_at N square = square +ℤ pos 1
line_at S square = square
line_at E square = square +ℤ pos 1
line_at W square = square

abbrev pub square_at : Side → ℤ → ℤ
square_at N line = line -ℤ pos 1
square_at S line = line
square_at E line = line -ℤ pos 1
square_at W line = line

abbrev pub opposite : Side → Side
opposite N = S
opposite S = N
opposite E = W
opposite W = E

-- the line and the column of a unit
abbrev pub line_of : Side → (x y : ℤ) → ℤ
line_of side x y = line_at side (across side x y)

abbrev pub column_of : Side → (x y : ℤ) → ℤ
column_of side x y = along side x y

-- the square of the unit with a side, on a line, in a column
abbrev pub square_x : Side → (line column : ℤ) → ℤ
square_x side line column = along side column (square_at side line)

abbrev pub square_y : Side → (line column : ℤ) → ℤ
square_y side line column = across side column (square_at side line)

-- does the set have the unit with this side, on this line, in this column?
abbrev pub has_unit : Units → Side → (line column : ℤ) → Bool
has_unit units side line column = units (square_x side line column) (square_y side line column) side

-- the square outside a unit: the one whose opposite side lies there
abbrev pub outside_x : Side → (x y : ℤ) → ℤ
outside_x side x y = square_x (opposite side) (line_of side x y) (column_of side x y)

abbrev pub outside_y : Side → (x y : ℤ) → ℤ
outside_y side x y = square_y (opposite side) (line_of side x y) (column_of side x y)

-- the boundary of a set of squares: a unit is in it where its square is in the set and the square outside isn't
abbrev pub boundary : Squares → Units
boundary squares x y side = squares x y && not (squares (outside_x side x y) (outside_y side x y))
