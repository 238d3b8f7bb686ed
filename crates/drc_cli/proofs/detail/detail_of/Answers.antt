use Rattle.drc_cli.proofs.DeckRead.{told_as_written}
use Rattle.drc_cli.proofs.detail.detail_of.Goals as goal

pub returns-in-Unsupported : goal.returns-in-Unsupported
returns-in-Unsupported c = told_as_written c.args.text.now c.rest_of.result.now c.args.refusal.now c.token_in.result c.rest_of.ensures c.in-Unsupported.is c.token_in.ensures
