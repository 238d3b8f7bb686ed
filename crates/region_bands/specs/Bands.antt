-- Bands: the rows of a region that stand above one another and are equal, as one row from line y0 to line y1.
use Rattle.std.specs.Prelude.{◌≡◌, ◌⊎◌, false, ◌&&◌, ◌||◌, ◌<ℤ◌, List, [], ◌∷◌}
use Rattle.list_facts.specs.Between.{between}
use Rattle.drc_geom.specs.Squares.{Squares}
use Rattle.interval_row.specs.Rows.{has, IsRow}
use Rattle.region_bands.specs.declared.band.Band.{Band}

-- the squares of one band
abbrev pub squares_of_band : Band → Squares
squares_of_band b x y = between b.y0 b.y1 y && has b.row x

-- the squares of bands
abbrev pub squares_of_bands : List Band → Squares
squares_of_bands [] x y = false
squares_of_bands (b ∷ bs) x y = squares_of_band b x y || squares_of_bands bs x y

-- a ends below the line where b begins, or touches it and has another row
abbrev pub EndsBefore : Band → Band → Type 0
EndsBefore a b = (a.y1 <ℤ b.y0) ⊎ ((a.y1 ≡ b.y0) × (a.row ≡ b.row → ⊥))

abbrev pub EndsBeforeFirst : Band → List Band → Type 0
EndsBeforeFirst a [] = Unit {0}
EndsBeforeFirst a (b ∷ bs) = EndsBefore a b

-- Canonical bands: each has a height and a row that isn't empty; they ascend, and two that touch have different rows.
abbrev pub AreBands : List Band → Type 0
AreBands [] = Unit {0}
AreBands (b ∷ bs) = (b.y0 <ℤ b.y1) × IsRow b.row × (b.row ≡ [] → ⊥) × EndsBeforeFirst b bs × AreBands bs
