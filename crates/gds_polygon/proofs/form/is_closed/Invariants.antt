use Rattle.std.proofs.Common.{◌≡◌, drop}
use Rattle.gds_polygon.specs.Outlines.{last_of}
use Rattle.gds_polygon.proofs.form.is_closed.Given as goal

abbrev pub invariant-loop-p : goal.invariant-loop-p
invariant-loop-p l = last_of l.last (drop l.p-index l.more) ≡ last_of l.first l.more
