use Rattle.std.proofs.Common.{◌↔◌, ◌∷◌, drop}
use Rattle.gds_polygon.specs.Outlines.{IsRightAngled}
use Rattle.gds_polygon.proofs.form.is_right_angled.Given as goal

abbrev pub invariant-loop-b : goal.invariant-loop-b
invariant-loop-b l = IsRightAngled (l.a ∷ drop l.b-index l.more) ↔ IsRightAngled l.points
