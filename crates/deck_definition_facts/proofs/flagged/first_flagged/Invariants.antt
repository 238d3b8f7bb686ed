-- What was found is the first fact of the definitions before.
use Rattle.deck_definitions.specs.Definitions.{shown}
use Rattle.deck_facts.specs.FirstFacts.{IsFirst}
use Rattle.deck_definition_facts.specs.Working.Flags.{IsFlaggedBelow}
use Rattle.deck_definition_facts.proofs.flagged.first_flagged.Given as goal

abbrev pub invariant-loop-number : goal.invariant-loop-number
invariant-loop-number l = IsFirst (IsFlaggedBelow l.number l.kind (shown l.definitions) l.flags) l.first
