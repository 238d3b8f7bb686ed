use Rattle.ledger_table.specs.Working.Places.{AreLinked}
use Rattle.ledger_table.proofs.places.link_all.Given as goal

abbrev pub invariant-loop-place : goal.invariant-loop-place
invariant-loop-place l = AreLinked l.wires l.last l.earlier l.place
