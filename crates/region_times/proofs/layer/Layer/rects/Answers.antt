use Rattle.std.proofs.Common.{◌^◌, pos, List, subst, sym}
use Rattle.drc_geom.specs.declared.rect.Rect.{Rect}
use Rattle.drc_geom.specs.Squares.{covered}
use Rattle.region_size.specs.Sizes.{LieWithin}
use Rattle.region_times.proofs.Reaching.{covers_within}
use Rattle.region_times.proofs.layer.Layer.rects.Goals as goal

pub returns-clause-within : goal.returns-clause-within
returns-clause-within c =
    subst (λ (rs : List Rect). LieWithin (pos (2 ^ 40)) (covered rs)) (sym c.as_slice.ensures.value)
    (covers_within c.self.inside.rects.items c.self.invariant)
