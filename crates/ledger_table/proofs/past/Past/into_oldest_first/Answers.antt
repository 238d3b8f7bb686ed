use Rattle.std.proofs.Common.{◌≡◌, ◌-◌, length, ◌∙◌, ap, take, reverse, arith}
use Rattle.ledger_table.proofs.Slots.{reversed_end}
use Rattle.ledger_table.proofs.past.Past.into_oldest_first.Goals as goal

pub returns : goal.returns
returns c =
    let xs = c.self.inside.events.items in
    let n : c.len.result ≡ length xs = grind arith in
    c.truncate.ensures.items
    ∙ (ap (take (c.len.result - c.self.inside.first)) c.reverse.ensures.items
    ∙ (ap (λ k. take (k - c.self.inside.first) (reverse xs)) n
    ∙ (reversed_end xs c.self.inside.first ∙ ap (λ p. reverse p.events) c.self.view_is)))
