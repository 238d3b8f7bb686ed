use Rattle.std.proofs.lemmas.Result.{IfOk-weaker}
use Rattle.deck_builder.proofs.StatementRules.{file_text, file_name}
use Rattle.deck_builder.proofs.tokens.file.Goals as goal

pub returns-in-Some-Text : goal.returns-in-Some-Text
returns-in-Some-Text c = IfOk-weaker c.text.result _ _ (λ x h. file_text h) c.text.ensures

pub returns-in_default : goal.returns-in_default
returns-in_default c = IfOk-weaker c.name.result _ _ (λ x h. file_name h) c.name.ensures
