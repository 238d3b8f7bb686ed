use Rattle.gds_grammar.proofs.Slots.{slot_of_front, front_has_slot}
use Rattle.gds_grammar.proofs.Ends.{whole_is_end}
use Rattle.gds_grammar.proofs.laws.slots_are_of_fronts.Goals as goal

pub returns : goal.returns
returns c = record { front = slot_of_front; slot = front_has_slot; whole = whole_is_end }
