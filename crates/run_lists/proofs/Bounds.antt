-- The boundary of what rectangles cover is bounded.
use Rattle.std.proofs.Common.{◌≡◌, ℕ, ◌+◌, ◌≤◌, Bool, true, false, ◌&&◌, ◌||◌, not, ℤ, pos, neg_ℤ, ◌+ℤ◌, ◌-ℤ◌, ◌≤ℤ◌, ◌<ℤ◌, unsigned_abs, List, [], ◌∷◌, refl, sym, arith}
use Rattle.std.proofs.lemmas.Bool.{and_parts}
use Rattle.std.proofs.lemmas.Int.{ints}
use mathlib.Core.Bool.{true≢false}
use Rattle.list_facts.specs.InOrder.{ListsInOrder}
use Rattle.list_facts.proofs.Tests.{from_between, up_to_between}
use Rattle.drc_geom.specs.declared.rect.Rect.{Rect}
use Rattle.drc_geom.specs.declared.run.Run.{Run}
use Rattle.drc_geom.specs.declared.unit.Side.{Side}
use Rattle.drc_geom.specs.declared.unit.Side.TheVariants.{N, E, S, W}
use Rattle.drc_geom.specs.Squares.{squares_of, covered}
use Rattle.drc_geom.specs.Units.{Units, boundary, has_unit}
use Rattle.drc_geom.specs.Runs.{IsMaximalRun, run_order}
use Rattle.run_lists.proofs.RunLists.{AreWithin, runs_listed}

-- a square that lies between -b and b
record IsWithin (b : ℕ) (x y : ℤ) : Type 0 where
  west : neg_ℤ (pos b) ≤ℤ x
  east : x <ℤ pos b
  south : neg_ℤ (pos b) ≤ℤ y
  north : y <ℤ pos b

abbrev reach_of : Rect → ℕ
reach_of r = unsigned_abs r.x0 + unsigned_abs r.x1 + unsigned_abs r.y0 + unsigned_abs r.y1

-- between -b and b lies all that the rectangles cover
abbrev reach : List Rect → ℕ
reach [] = 0
reach (r ∷ rs) = reach_of r + reach rs

one_within : (r : Rect) (b : ℕ) (x y : ℤ) → reach_of r ≤ b → squares_of r x y ≡ true → IsWithin b x y
one_within r b x y h e =
    let both = and_parts _ _ e in
    let w = from_between r.x0 r.x1 x both.0 in
    let v = up_to_between r.x0 r.x1 x both.0 in
    let s = from_between r.y0 r.y1 y both.1 in
    let n = up_to_between r.y0 r.y1 y both.1 in
    record { west = omega (arith, ints); east = omega (arith, ints); south = omega (arith, ints); north = omega (arith, ints) }

all_within : (rs : List Rect) (b : ℕ) (x y : ℤ) → reach rs ≤ b → covered rs x y ≡ true → IsWithin b x y
all_within [] b x y h e = absurd (true≢false (sym e))
all_within (r ∷ rs) b x y h e = at (squares_of r x y) refl e (λ rest. all_within rs b x y (omega arith) rest) where
  at : (here : Bool) → squares_of r x y ≡ here → (here || covered rs x y) ≡ true → (covered rs x y ≡ true → IsWithin b x y) → IsWithin b x y
  at true is e later = one_within r b x y (omega arith) is
  at false is e later = later e

module _ (rs : List Rect) where
  inside : (x y : ℤ) (out : Bool) → (covered rs x y && out) ≡ true → IsWithin (reach rs) x y
  inside x y out e = all_within rs (reach rs) x y (omega arith) (and_parts _ _ e).0

  within : AreWithin (boundary (covered rs)) (reach rs + 1)
  within = record { line_from = line_from; line_to = line_to; column_from = column_from; column_to = column_to } where
    line_from : (side : Side) (line column : ℤ) → has_unit (boundary (covered rs)) side line column ≡ true → neg_ℤ (pos (reach rs + 1)) ≤ℤ line
    line_from N line column e = let i = inside column (line -ℤ pos 1) _ e in let s = i.south in omega (arith, ints)
    line_from S line column e = let i = inside column line _ e in let s = i.south in omega (arith, ints)
    line_from E line column e = let i = inside (line -ℤ pos 1) column _ e in let s = i.west in omega (arith, ints)
    line_from W line column e = let i = inside line column _ e in let s = i.west in omega (arith, ints)

    line_to : (side : Side) (line column : ℤ) → has_unit (boundary (covered rs)) side line column ≡ true → line <ℤ pos (reach rs + 1)
    line_to N line column e = let i = inside column (line -ℤ pos 1) _ e in let s = i.north in omega (arith, ints)
    line_to S line column e = let i = inside column line _ e in let s = i.north in omega (arith, ints)
    line_to E line column e = let i = inside (line -ℤ pos 1) column _ e in let s = i.east in omega (arith, ints)
    line_to W line column e = let i = inside line column _ e in let s = i.east in omega (arith, ints)

    column_from : (side : Side) (line column : ℤ) → has_unit (boundary (covered rs)) side line column ≡ true → neg_ℤ (pos (reach rs + 1)) ≤ℤ column
    column_from N line column e = let i = inside column (line -ℤ pos 1) _ e in let s = i.west in omega (arith, ints)
    column_from S line column e = let i = inside column line _ e in let s = i.west in omega (arith, ints)
    column_from E line column e = let i = inside (line -ℤ pos 1) column _ e in let s = i.south in omega (arith, ints)
    column_from W line column e = let i = inside line column _ e in let s = i.south in omega (arith, ints)

    column_to : (side : Side) (line column : ℤ) → has_unit (boundary (covered rs)) side line column ≡ true → column <ℤ pos (reach rs + 1)
    column_to N line column e = let i = inside column (line -ℤ pos 1) _ e in let s = i.east in omega (arith, ints)
    column_to S line column e = let i = inside column line _ e in let s = i.east in omega (arith, ints)
    column_to E line column e = let i = inside (line -ℤ pos 1) column _ e in let s = i.north in omega (arith, ints)
    column_to W line column e = let i = inside line column _ e in let s = i.north in omega (arith, ints)

pub boundary_listed : (rs : List Rect) → (runs : List Run) × ListsInOrder run_order (IsMaximalRun (boundary (covered rs))) runs
boundary_listed rs = runs_listed (boundary (covered rs)) (reach rs + 1) (within rs)
