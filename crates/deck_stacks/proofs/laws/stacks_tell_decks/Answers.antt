use Rattle.deck_stacks.proofs.Following.{viable_has_stacks, stacks_are_viable, ends_as_deck, deck_may_end, decided}
use Rattle.deck_stacks.proofs.laws.stacks_tell_decks.Goals as goal

pub returns-clause-viable : goal.returns-clause-viable
returns-clause-viable c = stacks_are_viable

pub returns-clause-not_viable : goal.returns-clause-not_viable
returns-clause-not_viable c = viable_has_stacks

pub returns-clause-deck : goal.returns-clause-deck
returns-clause-deck c = ends_as_deck

pub returns-clause-no_other : goal.returns-clause-no_other
returns-clause-no_other c = deck_may_end

pub returns-clause-decided : goal.returns-clause-decided
returns-clause-decided c = decided
