use Rattle.std.proofs.Common.{◌≡◌, drop}
use Rattle.drc_geom.specs.Runs.{units_of}
use Rattle.edge_form.proofs.lookup.finds.Given as goal

abbrev pub invariant-loop-run : goal.invariant-loop-run
invariant-loop-run l = units_of (drop l.run-index l.runs) l.unit.x l.unit.y l.unit.side ≡ units_of l.runs l.unit.x l.unit.y l.unit.side
