use Rattle.std.proofs.Common.{rules}
use Rattle.drc_cli.specs.Layout.{number_in}
use Rattle.drc_cli.proofs.layout.slot.number_in.Goals as goal

pub returns : goal.returns
unfolding number_in
returns c = search rules
