use Rattle.std.proofs.Common.{[], ap, ◌∙◌}
use Rattle.drc_ports.specs.Files.{Contents, world}
use Rattle.drc_cli.specs.declared.answer.Which.TheVariants as which
use Rattle.drc_cli.proofs.StepLaws.{file_written}
use Rattle.drc_cli.proofs.publish.write_file.Goals as goal

pub returns-in-Ok : goal.returns-in-Ok
returns-in-Ok g c =
    file_written g.F.Files.tells which.Results _ c.args.text.now c.write_all.result _ (world (g.F.Files.tally c.create.new.self) (g.F.Files.contents c.create.new.self)) _
    c.in-Ok.ensures.counts c.in-Ok.ensures.bytes c.write_all.ensures.counts
    (λ told.
    let made = c.in-Ok.ensures.bytes told in
    let here = ap (λ (x : Contents). x.target) made.1 in
    c.write_all.ensures.written told [] (ap (g.F.Files.contents c.create.new.self).made here ∙ made.0.there))
