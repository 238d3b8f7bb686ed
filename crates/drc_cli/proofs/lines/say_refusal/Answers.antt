use Rattle.std.proofs.Common.{◌++◌, ◌∙◌}
use Rattle.std.specs.Prelude.{codes, decimal}
use Rattle.drc_ports.specs.Files.{world}
use Rattle.drc_cli.specs.Working.Endings.{refusal_of}
use Rattle.drc_cli.specs.Lines.{refusal_line}
use Rattle.drc_cli.proofs.StepLaws.{fails_as, says_as, line_parts}
use Rattle.drc_cli.proofs.lines.say_refusal.Goals as goal

pub returns-in-Err : goal.returns-in-Err
returns-in-Err g c =
    let reason = refusal_of c.args.reason.now in
    fails_as g.F.Files.tells (refusal_line c.args.refused.now reason) (c.args.refused.now ++ codes " " ++ c.as_bytes.result.now)
    (codes " at " ++ decimal reason.at ++ codes " " ++ (reason.word ++ reason.detail ++ codes "\n")) _ _
    (line_parts c.args.refused.now c.as_bytes.result.now reason (c.as_bytes.ensures.value ∙ c.format.ensures.text)) c.in-Err.ensures

pub returns-in-Ok : goal.returns-in-Ok
returns-in-Ok g c =
    let reason = refusal_of c.args.reason.now in
    says_as g.F.Files.tells (refusal_line c.args.refused.now reason) (c.args.refused.now ++ codes " " ++ c.as_bytes.result.now)
    (codes " at " ++ decimal reason.at ++ codes " " ++ (reason.word ++ reason.detail ++ codes "\n")) c.say_place.result _
    (world (g.F.Files.tally c.say_three.new.files) (g.F.Files.contents c.say_three.new.files)) _
    (line_parts c.args.refused.now c.as_bytes.result.now reason (c.as_bytes.ensures.value ∙ c.format.ensures.text)) c.in-Ok.ensures c.say_place.ensures
