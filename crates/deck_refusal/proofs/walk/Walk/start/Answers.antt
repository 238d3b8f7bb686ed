use Rattle.std.proofs.Common.{refl}
use Rattle.deck_refusal.proofs.Going.{first_of_all}
use Rattle.deck_refusal.proofs.walk.Walk.start.Goals as goal

pub returns : goal.returns
returns c = first_of_all _ c.in_ok-start.ensures refl c.new.ensures.items
