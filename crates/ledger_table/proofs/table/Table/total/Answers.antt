use Rattle.ledger_table.proofs.table.Table.total.Goals as goal

pub returns : goal.returns
returns c = rw (← c.self.view_is) c.self.invariant.counted
