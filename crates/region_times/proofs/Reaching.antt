-- What rectangles in reach cover lies within the reach of SIZE.
use Rattle.std.proofs.Common.{◌^◌, pos, List, [], ◌∷◌, arith}
use Rattle.std.proofs.lemmas.Int.{ints}
use Rattle.std.specs.List.{AllByRecursion}
use Rattle.drc_geom.specs.declared.rect.Rect.{Rect}
use Rattle.drc_geom.specs.Squares.{covered}
use Rattle.region_size.specs.Sizes.{LieWithin}
use Rattle.region_size.specs.Working.Widths.{LiesWithin}
use Rattle.region_size.proofs.Growing.{covered_within}
use Rattle.region_times.specs.Reach.{IsInReach}

in_reach : (r : Rect) → IsInReach r → LiesWithin (pos (2 ^ 40)) r
in_reach r i =
    let wide = i.area.wide in
    let high = i.area.high in
    let left = i.left in
    let below = i.below in
    let right = i.right in
    let above = i.above in
    record {
      x0 = omega (arith, ints);
      y0 = omega (arith, ints);
      x1 = omega (arith, ints);
      y1 = omega (arith, ints);
    }

lie_within : (rs : List Rect) → AllByRecursion IsInReach rs → AllByRecursion (LiesWithin (pos (2 ^ 40))) rs
lie_within [] a = tt
lie_within (r ∷ rs) a = (in_reach r a.0, lie_within rs a.1)

pub covers_within : (rs : List Rect) → AllByRecursion IsInReach rs → LieWithin (pos (2 ^ 40)) (covered rs)
covers_within rs a = covered_within (pos (2 ^ 40)) rs (lie_within rs a)
