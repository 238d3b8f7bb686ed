use Rattle.std.proofs.Common.{sym, ◌∙◌, ap}
use Rattle.ledger_history.specs.Histories.{is_stopped}
use Rattle.ledger_rounds.proofs.run.finished_history.Goals as goal

pub returns-clause-legal : goal.returns-clause-legal
returns-clause-legal g c = c.collect-ended.ensures.history.legal

pub returns-clause-runs : goal.returns-clause-runs
returns-clause-runs g c = ap is_stopped c.collect-ended.ensures.history.made ∙ (sym c.is_stopped.ensures ∙ c.if-is_stopped.false)
