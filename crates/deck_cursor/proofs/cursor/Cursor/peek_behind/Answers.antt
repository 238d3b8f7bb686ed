use Rattle.std.proofs.Common.{None, Some, ap, ◌∙◌}
use Rattle.deck_cursor.specs.Places.{kind_in}
use Rattle.deck_cursor.proofs.Within.{sees_none, sees_some, nothing_behind, behind_is}
use Rattle.deck_cursor.proofs.cursor.Cursor.peek_behind.Goals as goal

pub returns-in_default : goal.returns-in_default
returns-in_default c =
    nothing_behind c.self.inside.text.now c.self.inside.at c.self.inside.brackets c.args.self.now c.self.inside.ahead c.self.view_is c.self.invariant.1 c.in_default.is

pub returns-in-Some-upcoming : goal.returns-in-Some-upcoming
returns-in-Some-upcoming c =
    behind_is c.self.inside.text.now c.self.inside.at c.self.inside.brackets c.args.self.now c.self.inside.ahead c.in-Some.first (Some c.kind_in.result) c.self.view_is c.self.invariant.1 c.in-Some.is
    (sees_some c.self.inside.text.now c.in-Some.first.end c.self.inside.brackets c.upcoming.result c.in-Some-upcoming.token c.kind_in.result c.upcoming.ensures c.in-Some-upcoming.is (c.kind_in.ensures ∙ ap (kind_in c.in-Some-upcoming.token.kind) c.bytes_of.ensures))

pub returns-in-None : goal.returns-in-None
returns-in-None c =
    behind_is c.self.inside.text.now c.self.inside.at c.self.inside.brackets c.args.self.now c.self.inside.ahead c.in-Some.first None c.self.view_is c.self.invariant.1 c.in-Some.is
    (sees_none c.self.inside.text.now c.in-Some.first.end c.self.inside.brackets c.upcoming.result c.upcoming.ensures c.in-None.is)
