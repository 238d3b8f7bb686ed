-- What was found is the first of the facts before.
use Rattle.deck_facts.specs.FirstFacts.{IsFirst}
use Rattle.deck_facts.specs.Working.Below.{IsBelow}
use Rattle.deck_facts.proofs.first.first_in.Given as goal

abbrev pub invariant-loop-fact : goal.invariant-loop-fact
invariant-loop-fact l = IsFirst (IsBelow l.fact-index l.facts) l.first
