use Rattle.std.proofs.Common.{length, sym, ◌∙◌, arith}
use Rattle.std.proofs.lemmas.Bool.{le-ltb}
use Rattle.ledger_table.specs.Marks.{run_of}
use Rattle.ledger_table.proofs.Telling.{absent_charged}
use Rattle.ledger_table.proofs.table.Table.is_charged.Goals as goal

pub returns-else-op-len : goal.returns-else-op-len
returns-else-op-len c = rw (← c.self.view_is) (le-ltb _ _ c.if-op-len.false ∙ sym (absent_charged (run_of c.self.inside.places c.self.inside.budget (length c.self.inside.held.items) c.self.inside.past.events) c.self.inside.past.events c.args.op c.self.invariant.legal (grind (arith, c.self.invariant.marked.all))))
