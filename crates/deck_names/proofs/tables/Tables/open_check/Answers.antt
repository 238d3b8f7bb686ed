use Rattle.deck_names.proofs.Defining.{opened, unopened}
use Rattle.deck_names.proofs.tables.Tables.open_check.Goals as goal

pub returns-in_err-push-clause-tables : goal.returns-in_err-push-clause-tables
returns-in_err-push-clause-tables c = unopened c.args.self.now c.requires c.push.new.self c.in_err-push.ensures.items

pub returns-clause-tables : goal.returns-clause-tables
returns-clause-tables c = opened c.args.self.now c.requires c.new.result c.push.new.self c.in_ok-push.ensures.items c.new.ensures
