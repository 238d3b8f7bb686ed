use Rattle.std.proofs.Common.{length, sym, arith}
use Rattle.std.proofs.lemmas.Option.{slice_get_read}
use Rattle.ledger_table.specs.Marks.{run_of}
use Rattle.ledger_table.proofs.Telling.{absent_holds}
use Rattle.ledger_table.proofs.table.Table.held.Goals as goal

pub returns-then-worker-len : goal.returns-then-worker-len
returns-then-worker-len c = rw (← c.self.view_is) (c.self.invariant.holds c.args.worker _ (slice_get_read c.self.inside.held.items _ c.args.worker _ (grind arith) (c.if-worker-len.true) c.index.ensures))

pub returns-else-worker-len : goal.returns-else-worker-len
returns-else-worker-len c = rw (← c.self.view_is) (sym (absent_holds (run_of c.self.inside.places c.self.inside.budget (length c.self.inside.held.items) c.self.inside.past.events) c.self.inside.past.events c.args.worker c.self.invariant.legal (grind arith)))
