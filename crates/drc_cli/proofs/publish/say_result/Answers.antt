use Rattle.std.proofs.Common.{[], ◌∷◌, sym, subst}
use Rattle.drc_ports.specs.Files.{world}
use Rattle.drc_cli.specs.declared.answer.Status.{Status}
use Rattle.drc_cli.specs.declared.answer.Status.TheVariants as status
use Rattle.drc_cli.specs.Outcome.{says}
use Rattle.drc_cli.specs.ProgramEnds.{EndsAs}
use Rattle.drc_cli.proofs.StepLaws.{said_last}
use Rattle.drc_cli.proofs.publish.say_result.Goals as goal

pub returns : goal.returns
returns g c =
    let old = world (g.F.Files.tally c.args.files.now) (g.F.Files.contents c.args.files.now) in
    let new = world (g.F.Files.tally c.say_all.new.files) (g.F.Files.contents c.say_all.new.files) in
    subst (λ (answer : Status). EndsAs (record { status = status.Done; steps = says c.args.text.now ∷ [] }) answer g.F.Files.tells old new) (sym c.said_status.ensures)
    (said_last g.F.Files.tells c.args.text.now c.say_all.result old new c.say_all.ensures)
