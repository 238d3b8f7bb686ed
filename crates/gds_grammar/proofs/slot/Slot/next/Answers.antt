use Rattle.gds_grammar.proofs.Slots.{next_stands}
use Rattle.gds_grammar.proofs.slot.Slot.next.Goals as goal

pub returns : goal.returns
returns c = λ types stands. next_stands types c.args.self c.args.kind stands c.way.result c.way.ensures
