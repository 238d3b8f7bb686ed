-- Flips: a set of squares as the places where its rows change. On line y the squares of the columns x0 to x1 - 1
-- change: the row above the line differs there from the row below it.
use Rattle.std.specs.Prelude.{◌≡◌, ◌⊎◌, Bool, false, ◌&&◌, ℤ, ◌<ℤ◌, int_le, List, [], ◌∷◌}
use Rattle.list_facts.specs.Between.{between}
use Rattle.list_facts.specs.EitherOr.{exactly_one}
use Rattle.std.specs.List.{AllByRecursion}
use Rattle.drc_geom.specs.Squares.{Squares}
use Rattle.region_form.specs.declared.flip.Flip.{Flip}

-- whether a flip changes column x
abbrev pub changes : Flip → ℤ → Bool
changes f x = between f.x0 f.x1 x

-- the squares of flips: (x, y) is one exactly where an odd number of flips at or below row y change column x
abbrev pub squares : List Flip → Squares
squares [] x y = false
squares (f ∷ fs) x y = exactly_one (int_le f.y y && changes f x) (squares fs x y)

-- whether an odd number of flips change column x
abbrev pub is_odd : List Flip → ℤ → Bool
is_odd [] x = false
is_odd (f ∷ fs) x = exactly_one (changes f x) (is_odd fs x)

-- f lies on a lower line than g, or on its line and ends before the place where g begins
abbrev pub StandsBefore : Flip → Flip → Type 0
StandsBefore f g = (f.y <ℤ g.y) ⊎ ((f.y ≡ g.y) × (f.x1 <ℤ g.x0))

abbrev pub StandsBeforeFirst : Flip → List Flip → Type 0
StandsBeforeFirst f [] = Unit {0}
StandsBeforeFirst f (g ∷ gs) = StandsBefore f g

-- by line and then column; each changes a column, and two on one line neither overlap nor touch
abbrev pub AreSorted : List Flip → Type 0
AreSorted [] = Unit {0}
AreSorted (f ∷ fs) = (f.x0 <ℤ f.x1) × StandsBeforeFirst f fs × AreSorted fs

-- The form of a region: sorted flips, of which each column has an even number. So no column has squares without end.
pub record IsRegion (flips : List Flip) : Type 0 where
  pub sorted : AreSorted flips
  pub closed : (x : ℤ) → is_odd flips x ≡ false

-- every flip lies on a line below this one
abbrev pub AreBelow : ℤ → List Flip → Type 0
AreBelow y = AllByRecursion (λ f. f.y <ℤ y)
