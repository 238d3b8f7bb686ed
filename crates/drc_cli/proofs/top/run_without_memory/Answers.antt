use Rattle.drc_ports.specs.Files.{world}
use Rattle.drc_cli.proofs.Ended.{memory_alone}
use Rattle.drc_cli.proofs.top.run_without_memory.Goals as goal

pub returns : goal.returns
returns g c = memory_alone g.F.Files.tells c.say_all.result
    (world (g.F.Files.tally c.args.files.now) (g.F.Files.contents c.args.files.now))
    (world (g.F.Files.tally c.say_all.new.files) (g.F.Files.contents c.say_all.new.files)) c.say_all.ensures
