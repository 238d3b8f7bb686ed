use Rattle.std.proofs.Common.{take, Contains}
use Rattle.deck_grammar.specs.Refusals.{singles}
use Rattle.deck_grammar.proofs.singles.has.Given as goal

abbrev pub invariant-loop-statement : goal.invariant-loop-statement
invariant-loop-statement l = Contains (singles (take l.statement-index l.all)) l.which → ⊥
