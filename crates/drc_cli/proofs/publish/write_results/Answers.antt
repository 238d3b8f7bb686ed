use Rattle.std.proofs.Common.{◌≡◌, List, ℕ, [], ◌∷◌, ◌++◌, string_bytes, subst, ◌∙◌}
use Rattle.std.specs.Prelude.{codes}
use Rattle.drc_ports.specs.Files.{world}
use Rattle.drc_cli.specs.declared.answer.Which.TheVariants as which
use Rattle.drc_cli.specs.declared.answer.Status.TheVariants as status
use Rattle.drc_cli.specs.Outcome.{writes, says}
use Rattle.drc_cli.specs.ProgramEnds.{EndsAs}
use Rattle.drc_cli.specs.Steps.{IsDone, Fails}
use Rattle.drc_cli.specs.Working.Tries.{Tries}
use Rattle.drc_cli.proofs.StepLaws.{unpublished, published}
use Rattle.drc_cli.proofs.publish.write_results.Goals as goal

pub returns-in-Err : goal.returns-in-Err
returns-in-Err g c =
    let ready = c.args.ready in
    let old = world (g.F.Files.tally c.args.files.now) (g.F.Files.contents c.args.files.now) in
    let at = world (g.F.Files.tally c.write_file.new.files) (g.F.Files.contents c.write_file.new.files) in
    let new = world (g.F.Files.tally c.say_three.new.files) (g.F.Files.contents c.say_three.new.files) in
    let named : c.bytes.result.now ≡ string_bytes ready.file = c.bytes.ensures ∙ c.requires.named in
    unpublished g.F.Files.tells which.Results (string_bytes ready.file) ready.text.items ready.line.items c.say_three.result old at new
    (subst (λ (text : List ℕ). Fails g.F.Files.tells (writes which.Results (string_bytes ready.file) text) old at) c.deref.ensures.value c.in-Err.ensures)
    (subst (λ (name : List ℕ). Tries g.F.Files.tells (says (codes "write " ++ name ++ codes "\n")) c.say_three.result at new) named c.say_three.ensures)

pub returns : goal.returns
returns g c =
    let ready = c.args.ready in
    let old = world (g.F.Files.tally c.args.files.now) (g.F.Files.contents c.args.files.now) in
    let at = world (g.F.Files.tally c.write_file.new.files) (g.F.Files.contents c.write_file.new.files) in
    let new = world (g.F.Files.tally c.say_result.new.files) (g.F.Files.contents c.say_result.new.files) in
    published g.F.Files.tells which.Results (string_bytes ready.file) ready.text.items ready.line.items c.say_result.result old at new
    (subst (λ (text : List ℕ). IsDone g.F.Files.tells (writes which.Results (string_bytes ready.file) text) old at) c.deref.ensures.value c.in-Ok.ensures)
    (subst (λ (line : List ℕ). EndsAs (record { status = status.Done; steps = says line ∷ [] }) c.say_result.result g.F.Files.tells at new) c.deref-in-Ok.ensures.value c.say_result.ensures)
