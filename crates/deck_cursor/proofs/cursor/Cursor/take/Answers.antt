use Rattle.std.proofs.Common.{ap, ◌∙◌}
use Rattle.deck_cursor.specs.Places.{kind_in}
use Rattle.deck_cursor.proofs.Within.{none_to_take, another_to_take, never}
use Rattle.deck_cursor.proofs.cursor.Cursor.take.Goals as goal

pub returns-in_default-clause-wrong : goal.returns-in_default-clause-wrong
returns-in_default-clause-wrong c =
    none_to_take c.self.inside.text.now c.self.inside.at c.self.inside.brackets c.args.self.now c.self.inside.ahead c.args.kind c.self.view_is c.self.invariant.1
    c.in_default.is

pub returns-then-not-is_same-clause-wrong : goal.returns-then-not-is_same-clause-wrong
returns-then-not-is_same-clause-wrong c =
    another_to_take c.self.inside.text.now c.self.inside.at c.self.inside.brackets c.args.self.now c.self.inside.ahead c.in-Some.token c.args.kind c.kind_in.result
    c.self.view_is c.self.invariant.1 c.in-Some.is (c.kind_in.ensures ∙ ap (kind_in c.in-Some.token.kind) c.bytes_of-bytes.ensures)
    (λ e. never (c.if-not-is_same.ensures.1 e))
