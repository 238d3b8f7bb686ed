use Rattle.std.proofs.Common.{refl}
use Rattle.deck_cursor.specs.Places.{start_of}
use Rattle.deck_cursor.proofs.Lists.{read_to_the_end}
use Rattle.deck_cursor.proofs.laws.steps_are_a_deck.Goals as goal

pub returns : goal.returns
returns c text to all reads comes = read_to_the_end text (start_of text) to all refl reads comes
