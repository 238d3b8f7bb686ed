use Rattle.std.proofs.Common.{List, ℕ, ◌++◌, ap, ◌∙◌}
use Rattle.std.specs.Prelude.{codes, decimal}
use Rattle.drc_ports.specs.Files.{world}
use Rattle.drc_cli.proofs.StepLaws.{fails_as, says_as}
use Rattle.drc_cli.proofs.lines.say_place.Goals as goal

pub returns-in-Err : goal.returns-in-Err
returns-in-Err g c =
    let reason = c.args.reason.now in
    let behind = reason.word.now ++ reason.detail.now ++ codes "\n" in
    fails_as g.F.Files.tells (codes " at " ++ decimal reason.at ++ codes " " ++ behind) (codes " at " ++ c.as_bytes.result.now ++ codes " ") behind _ _
    (ap (λ (t : List ℕ). codes " at " ++ t ++ codes " " ++ behind) (c.as_bytes.ensures.value ∙ c.format.ensures.text)) c.in-Err.ensures

pub returns-in-Ok : goal.returns-in-Ok
returns-in-Ok g c =
    let reason = c.args.reason.now in
    let behind = reason.word.now ++ reason.detail.now ++ codes "\n" in
    says_as g.F.Files.tells (codes " at " ++ decimal reason.at ++ codes " " ++ behind) (codes " at " ++ c.as_bytes.result.now ++ codes " ") behind c.say_three-in-Ok.result _
    (world (g.F.Files.tally c.say_three.new.files) (g.F.Files.contents c.say_three.new.files)) _
    (ap (λ (t : List ℕ). codes " at " ++ t ++ codes " " ++ behind) (c.as_bytes.ensures.value ∙ c.format.ensures.text)) c.in-Ok.ensures c.say_three-in-Ok.ensures
