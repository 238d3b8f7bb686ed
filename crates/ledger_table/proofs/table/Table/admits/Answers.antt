use Rattle.ledger_table.specs.Ledgers.{charged_cost}
use Rattle.ledger_table.specs.Tables.{ledger_of}
use Rattle.ledger_table.proofs.Telling.{admits_by_budget, admits_by_lowest}
use Rattle.ledger_table.proofs.table.Table.admits.Goals as goal

pub returns-then-self-cost : goal.returns-then-self-cost
returns-then-self-cost c = rw (← c.self.view_is) (admits_by_budget (ledger_of c.self.inside) (charged_cost c.self.inside.past.events) c.args.op c.self.inside.total c.args.cost c.self.invariant.counted c.if-self-cost.true)

pub returns-else-self-cost : goal.returns-else-self-cost
returns-else-self-cost c = rw (← c.self.view_is) (admits_by_lowest (ledger_of c.self.inside) (charged_cost c.self.inside.past.events) c.args.op c.self.inside.total c.args.cost c.self.inside.lowest c.self.invariant.counted c.if-self-cost.false c.self.invariant.low)
