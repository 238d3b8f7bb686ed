-- Each worth is so, and those of the definitions so far are there.
use Rattle.deck_worths.specs.Working.SoFar.{IsSoFar}
use Rattle.deck_worths.proofs.worths.worths_in_order.Given as goal

abbrev pub invariant-loop-number : goal.invariant-loop-number
invariant-loop-number l = IsSoFar l.graph.definitions l.listed l.number-index l.worths.items
