use Rattle.std.proofs.Common.{slice_index}
use Rattle.ledger_table.proofs.Costs.{enabled_at}
use Rattle.ledger_table.proofs.table.Table.allows_at.Goals as goal

pub returns-then-has_cost : goal.returns-then-has_cost
returns-then-has_cost c = (
  λ t. let a = c.allows.ensures.0 t in enabled_at c.args.self.now a.cost (λ i. slice_index c.args.costs.now i) c.args.self.now.events c.args.event a.enabled (c.has_cost.ensures.0 c.if-has_cost.true),
  λ e. c.allows.ensures.1 (record { cost = λ i. slice_index c.args.costs.now i; enabled = e }),
)
