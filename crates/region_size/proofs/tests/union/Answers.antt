use Rattle.std.proofs.Common.{◌^◌, pos}
use Rattle.drc_geom.specs.Squares.{covered}
use Rattle.region_form.specs.Flips.{squares}
use Rattle.region_size.proofs.Growing.{covered_within, same_within}
use Rattle.region_size.proofs.tests.union.Goals as goal

pub returns : goal.returns
returns c =
    same_within (pos (2 ^ 40)) (squares c.in_ok-region.region) (covered c.args.rects.now) c.in_ok-region.ensures
    (covered_within (pos (2 ^ 40)) c.args.rects.now c.requires.reach)
