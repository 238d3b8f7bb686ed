-- Working words of `push_band`: the flips on the last line of a region, as a row.
use Rattle.std.specs.Prelude.{◌≡◌, ◌||◌, ℤ, pos, ◌+ℤ◌, List, map}
use Rattle.std.specs.List.{AllByRecursion}
use Rattle.interval_row.specs.declared.span.Span.{Span}
use Rattle.region_form.specs.declared.flip.Flip.{Flip}
use Rattle.region_form.specs.Flips.{AreBelow, IsRegion, squares as squares_of}
use Rattle.region_bands.specs.declared.band.Band.{Band}
use Rattle.region_bands.specs.Bands.{squares_of_band}

-- the columns that each flip changes, as spans
abbrev pub spans_of : List Flip → List Span
spans_of = map (λ f. record { lo = f.x0; hi = f.x1 })

-- every flip lies on this line
abbrev pub AreOn : ℤ → List Flip → Type 0
AreOn line = AllByRecursion (λ f. f.y ≡ line)

-- these flips are the region's with the band added
pub record HasBand (region : List Flip) (band : Band) (flips : List Flip) : Type 0 where
  pub form : IsRegion flips
  pub squares : (x y : ℤ) → squares_of flips x y ≡ (squares_of region x y || squares_of_band band x y)
  pub lines : AreBelow (band.y1 +ℤ pos 1) flips
