use Rattle.deck_builder.specs.Choices.{how_many}
use Rattle.deck_builder.proofs.options.+options.Given as goal

abbrev pub decreases-options : goal.decreases-options
decreases-options l = how_many l.left
