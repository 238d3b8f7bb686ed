use Rattle.std.proofs.Common.{List, ℕ, Err, sym, ap, subst, ◌∙◌}
use Rattle.drc_ports.specs.Files.{world}
use Rattle.drc_cli.specs.declared.answer.Which.TheVariants as which
use Rattle.drc_cli.specs.declared.layout.end.LayoutEnd.{LayoutEnd}
use Rattle.drc_cli.specs.Outcome.{reads}
use Rattle.drc_cli.specs.Steps.{IsDone}
use Rattle.drc_cli.proofs.StepLaws.{file_read}
use Rattle.drc_cli.proofs.decide.layout_rects.Goals as goal

pub returns-in-Ok-clause-read : goal.returns-in-Ok-clause-read
returns-in-Ok-clause-read g c =
    let read = c.in-Ok.ensures.accepted in
    let old = world (g.F.Files.tally c.args.files.now) (g.F.Files.contents c.args.files.now) in
    let at = world (g.F.Files.tally c.begin_read.new.self) (g.F.Files.contents c.begin_read.new.self) in
    let new = world (g.F.Files.tally c.read_layout.new.files) (g.F.Files.contents c.read_layout.new.files) in
    let done = file_read g.F.Files.tells which.Layout _ read.0 c.begin_read.result old at new
    (sym c.is_err.ensures.value ∙ c.if-is_err.false) c.begin_read.ensures.counts c.begin_read.ensures.bytes c.in-Ok.ensures.counts c.in-Ok.ensures.same read.4 in
    (read.0, read.1, read.2, read.3, subst (λ (name : List ℕ). IsDone g.F.Files.tells (reads which.Layout name read.0) old new) c.in_ok-file.ensures done)

pub returns-in-Err-Refused-clause-read : goal.returns-in-Err-Refused-clause-read
returns-in-Err-Refused-clause-read g c =
    let read = c.in-Err-Refused.ensures.refused c.in-Err-Refused.refusal (ap (λ (e : LayoutEnd). Err e) c.in-Err-Refused.field-0-is) in
    let old = world (g.F.Files.tally c.args.files.now) (g.F.Files.contents c.args.files.now) in
    let at = world (g.F.Files.tally c.begin_read.new.self) (g.F.Files.contents c.begin_read.new.self) in
    let new = world (g.F.Files.tally c.read_layout.new.files) (g.F.Files.contents c.read_layout.new.files) in
    let done = file_read g.F.Files.tells which.Layout _ read.0 c.begin_read.result old at new
    (sym c.is_err.ensures.value ∙ c.if-is_err.false) c.begin_read.ensures.counts c.begin_read.ensures.bytes (rw c.in-Err-Refused.field-0-is at c.in-Err-Refused.ensures.counts) c.in-Err-Refused.ensures.same read.2 in
    (read.0, read.1, subst (λ (name : List ℕ). IsDone g.F.Files.tells (reads which.Layout name read.0) old new) c.in_ok-file.ensures done)
