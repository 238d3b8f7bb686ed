use Rattle.std.proofs.Common.{take}
use Rattle.deck_grammar.specs.Refusals.{StandOnce}
use Rattle.deck_grammar.proofs.singles.repeated.Given as goal

abbrev pub invariant-loop-i : goal.invariant-loop-i
invariant-loop-i l = StandOnce (take l.i l.all)
