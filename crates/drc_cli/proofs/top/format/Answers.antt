use Rattle.std.proofs.Common.{List, ℕ, [], ◌∷◌, sym, subst}
use Rattle.drc_ports.specs.Files.{world}
use Rattle.drc_cli.specs.declared.answer.Status.{Status}
use Rattle.drc_cli.specs.declared.answer.Status.TheVariants as status
use Rattle.drc_cli.specs.Command.{format}
use Rattle.drc_cli.specs.Outcome.{says}
use Rattle.drc_cli.specs.ProgramEnds.{EndsAs}
use Rattle.drc_cli.specs.Working.CommandEnds.{CommandEnds}
use Rattle.drc_cli.specs.Working.CommandView.{format_of}
use Rattle.drc_cli.proofs.Ended.{ended_by_saying, ended_before_writing}
use Rattle.drc_cli.proofs.top.format.Goals as goal

pub returns-in-Ok : goal.returns-in-Ok
returns-in-Ok g c =
    let old = world (g.F.Files.tally c.args.files.now) (g.F.Files.contents c.args.files.now) in
    let at = world (g.F.Files.tally c.canonical_text.new.files) (g.F.Files.contents c.canonical_text.new.files) in
    let new = world (g.F.Files.tally c.say_result.new.files) (g.F.Files.contents c.say_result.new.files) in
    ended_by_saying (format (format_of c.args.request.now)) g.F.Files.tells old at new c.in-Ok.text c.say_result.result c.in-Ok.ensures
    (subst (λ (t : List ℕ). EndsAs (record { status = status.Done; steps = says t ∷ [] }) c.say_result.result g.F.Files.tells at new) c.deref.ensures.value c.say_result.ensures)

pub returns-in-Err : goal.returns-in-Err
returns-in-Err g c =
    let old = world (g.F.Files.tally c.args.files.now) (g.F.Files.contents c.args.files.now) in
    let at = world (g.F.Files.tally c.canonical_text.new.files) (g.F.Files.contents c.canonical_text.new.files) in
    let new = world (g.F.Files.tally c.say_ending.new.files) (g.F.Files.contents c.say_ending.new.files) in
    subst (λ (answer : Status). CommandEnds (format (format_of c.args.request.now)) answer g.F.Files.tells old new) (sym c.status_of.ensures)
    (ended_before_writing (format (format_of c.args.request.now)) g.F.Files.tells old at new c.in-Err.ending c.say_ending.result c.in-Err.ensures c.say_ending.ensures)
