use Rattle.std.proofs.Common.{None}
use Rattle.deck_cursor.proofs.Within.{sees_none, seen_there}
use Rattle.deck_cursor.proofs.cursor.Cursor.peek.Goals as goal

pub returns-in-None : goal.returns-in-None
returns-in-None c =
    seen_there c.self.inside.text.now c.self.inside.at c.self.inside.brackets c.args.self.now None c.self.view_is
    (sees_none c.self.inside.text.now c.self.inside.at c.self.inside.brackets c.self.inside.ahead c.self.invariant.1 c.in-None.is)
