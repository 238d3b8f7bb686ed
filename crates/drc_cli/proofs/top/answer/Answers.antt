use Rattle.drc_ports.specs.Files.{world}
use Rattle.drc_cli.proofs.Ended.{words_refused}
use Rattle.drc_cli.proofs.top.answer.Goals as goal

pub returns-in-None : goal.returns-in-None
returns-in-None g c = words_refused _ g.F.Files.tells c.say_all.result
    (world (g.F.Files.tally c.args.files.now) (g.F.Files.contents c.args.files.now))
    (world (g.F.Files.tally c.say_all.new.files) (g.F.Files.contents c.say_all.new.files)) c.in-None.ensures.refused c.say_all.ensures
