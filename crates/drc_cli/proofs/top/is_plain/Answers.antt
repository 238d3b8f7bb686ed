use Rattle.drc_cli.proofs.Settings.{plain_refused}
use Rattle.drc_cli.proofs.top.is_plain.Goals as goal

pub returns-in-None : goal.returns-in-None
returns-in-None c = plain_refused _ c.in-None.ensures.refused
