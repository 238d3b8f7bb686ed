use Rattle.drc_cli.proofs.StepLaws.{fails_first, says_then}
use Rattle.drc_ports.specs.Files.{world}
use Rattle.drc_cli.proofs.lines.say_two.Goals as goal

pub returns-in-Err : goal.returns-in-Err
returns-in-Err g c = fails_first g.F.Files.tells c.args.first.now c.args.second.now _ _ c.in-Err.ensures

pub returns-in-Ok : goal.returns-in-Ok
returns-in-Ok g c = says_then g.F.Files.tells c.args.first.now c.args.second.now c.say_all-in-Ok.result _
    (world (g.F.Files.tally c.say_all.new.files) (g.F.Files.contents c.say_all.new.files)) _ c.in-Ok.ensures c.say_all-in-Ok.ensures
