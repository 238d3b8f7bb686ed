use Rattle.run_lists.proofs.Bounds.{boundary_listed}
use Rattle.run_lists.proofs.boundaries_are_listed.Goals as goal

pub returns : goal.returns
returns c rects = boundary_listed rects
