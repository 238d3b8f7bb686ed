use Rattle.std.proofs.Common.{◌∙◌, ◌++◌, sym, ap}
use Rattle.deck_stacks.proofs.Ways.{options_opened}
use Rattle.deck_stacks.proofs.opening.Taking.+opening.Goals as goal

pub options-returns-clause-found : goal.options-returns-clause-found
options-returns-clause-found t c =
    let those = c.args.left in
    let opened = options_opened c.args.self.kind c.args.turns those.abut those.singular those.metric those.gap
    those.region c.args.stack.now c.if-turns-eq0.false in
    c.in_ok-each_if.ensures.found ∙ ap (λ found. c.args.found.now.items ++ found) (sym opened)
