use Rattle.std.proofs.Common.{ap, ◌∙◌}
use Rattle.deck_worths.specs.Working.SoFar.{answered}
use Rattle.deck_worths.proofs.SoFar.{outside_worth}
use Rattle.deck_worths.proofs.worths.variable_worth.Goals as goal

pub returns-in_ok-answer-in-Everywhere : goal.returns-in_ok-answer-in-Everywhere
returns-in_ok-answer-in-Everywhere c =
    outside_worth c.args.graph.now.definitions c.args.worths.now c.args.from c.args.value.now c.answered.result c.in-Everywhere.is
    (c.answered.ensures ∙ ap answered c.in_ok-answer-in-Everywhere.ensures)
