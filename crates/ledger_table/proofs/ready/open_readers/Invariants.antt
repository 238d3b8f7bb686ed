use Rattle.ledger_table.specs.Working.Places.{bound_of}
use Rattle.ledger_table.specs.Working.Openings.{Opening, walk}
use Rattle.ledger_table.proofs.ready.open_readers.Given as goal

abbrev pub invariant-loop-place : goal.invariant-loop-place
invariant-loop-place l = Opening (walk l.places l.marks l.op l.initial.ready) l.place l.ready

abbrev pub decreases-loop-place : goal.decreases-loop-place
decreases-loop-place l = bound_of l.place
