-- Working words of `bands`: the row that ends at a line becomes a band.
use Rattle.std.specs.Prelude.{ℤ, List, [], ◌∷◌, ◌++◌}
use Rattle.interval_row.specs.declared.span.Span.{Span}
use Rattle.region_bands.specs.declared.band.Band.{Band}

-- the bands, and above them the row from line y0 to line y1 if it has a place
abbrev pub with_band : List Band → ℤ → ℤ → List Span → List Band
with_band bands y0 y1 [] = bands
with_band bands y0 y1 (s ∷ ss) = bands ++ record { y0 = y0; y1 = y1; row = s ∷ ss } ∷ []
