use Rattle.deck_grammar.specs.Rules as r
use Rattle.deck_builder.specs.Reading.{Reaches}
use Rattle.deck_builder.proofs.value.Rules.factors.Given as goal

abbrev pub invariant-loop-turn : goal.invariant-loop-turn
invariant-loop-turn g l = Reaches r.factors (λ all. all) l.fn.cursor l.cursor l.found
