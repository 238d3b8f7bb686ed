-- What comes of an operation on two regions.
use Rattle.std.specs.Prelude.{◌≡◌, ◌↔◌, ◌&&◌, ◌||◌, not, true, ℕ, ℤ, pos, ◌-ℤ◌, ◌≤ℤ◌, List, length}
use Rattle.list_facts.specs.EitherOr.{exactly_one}
use Rattle.list_facts.specs.InOrder.{ListsInOrder}
use Rattle.drc_geom.specs.Runs.{units_of}
use Rattle.drc_geom.specs.declared.unit.Side.{Side}
use Rattle.drc_geom.specs.Units.{boundary}
use Rattle.region_form.specs.declared.flip.Flip.{Flip}
use Rattle.region_form.specs.Flips.{squares}
use Rattle.region_rects.specs.Canonical.{IsCanonical, rect_order}
use Rattle.region_size.specs.Sizes.{AllNear, HasNear}
use Rattle.region_times.specs.declared.operation.Operation.{Operation}
use Rattle.region_times.specs.declared.operation.Operation.TheVariants.{And, Or, Not, Xor, Size, Rectangles, Boundary}
use Rattle.region_times.specs.declared.outcome.Outcome.{Outcome}
use Rattle.region_times.specs.declared.outcome.Outcome.TheVariants.{Squares, Rects, Units}

-- the flips of a region, the rectangles, or the runs of a set of units
abbrev pub count_of : Outcome → ℕ
count_of (Squares r) = length r
count_of (Rects rs) = length rs.items
count_of (Units e) = length e

-- the first region grown by so many columns and rows, or shrunk where they are negative
pub record IsSized (first : List Flip) (by : ℤ) (sized : List Flip) : Type 0 where
  pub grown : pos 0 ≤ℤ by → (x y : ℤ) → (squares sized x y ≡ true) ↔ HasNear (squares first) by x y
  pub shrunk : by ≤ℤ pos 0 → (x y : ℤ)
      → (squares sized x y ≡ true) ↔ AllNear (squares first) (pos 0 -ℤ by) x y

abbrev pub IsMade : Operation → (by : ℤ) (first second : List Flip) → Outcome → Type 0
IsMade And by a b (Squares r) = (x y : ℤ) → squares r x y ≡ (squares a x y && squares b x y)
IsMade Or by a b (Squares r) = (x y : ℤ) → squares r x y ≡ (squares a x y || squares b x y)
IsMade Not by a b (Squares r) = (x y : ℤ) → squares r x y ≡ (squares a x y && not (squares b x y))
IsMade Xor by a b (Squares r) = (x y : ℤ) → squares r x y ≡ exactly_one (squares a x y) (squares b x y)
IsMade Size by a b (Squares r) = IsSized a by r
IsMade Rectangles by a b (Rects rs) = ListsInOrder rect_order (IsCanonical (squares a)) rs.items
IsMade Boundary by a b (Units e) =
    (x y : ℤ) → (side : Side) → units_of e x y side ≡ boundary (squares a) x y side
IsMade _ by a b _ = ⊥
