use Rattle.std.proofs.Common.{sym, subst}
use Rattle.drc_cli.specs.Working.CommandEnds.{CommandEnds}
use Rattle.drc_cli.specs.declared.answer.Status.{Status}
use Rattle.drc_ports.specs.Files.{world}
use Rattle.drc_cli.specs.Command.{check}
use Rattle.drc_cli.specs.Working.CommandView.{request_of}
use Rattle.drc_cli.proofs.Ended.{ended_by_writing, ended_before_writing}
use Rattle.drc_cli.proofs.top.check.Goals as goal

pub returns-in-Ok : goal.returns-in-Ok
returns-in-Ok g c = ended_by_writing (check (request_of c.args.request.now)) g.F.Files.tells
    (world (g.F.Files.tally c.args.files.now) (g.F.Files.contents c.args.files.now))
    (world (g.F.Files.tally c.decide_check.new.files) (g.F.Files.contents c.decide_check.new.files))
    (world (g.F.Files.tally c.write_results.new.files) (g.F.Files.contents c.write_results.new.files))
    c.in-Ok.ready c.write_results.result c.in-Ok.ensures c.write_results.ensures

pub returns-in-Err : goal.returns-in-Err
returns-in-Err g c =
    let old = world (g.F.Files.tally c.args.files.now) (g.F.Files.contents c.args.files.now) in
    let at = world (g.F.Files.tally c.decide_check.new.files) (g.F.Files.contents c.decide_check.new.files) in
    let new = world (g.F.Files.tally c.say_ending.new.files) (g.F.Files.contents c.say_ending.new.files) in
    subst (λ (answer : Status). CommandEnds (check (request_of c.args.request.now)) answer g.F.Files.tells old new) (sym c.status_of.ensures)
    (ended_before_writing (check (request_of c.args.request.now)) g.F.Files.tells old at new c.in-Err.ending c.say_ending.result c.in-Err.ensures c.say_ending.ensures)
