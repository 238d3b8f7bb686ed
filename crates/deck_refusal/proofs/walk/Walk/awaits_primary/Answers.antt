use Rattle.deck_refusal.proofs.Going.{primary_so}
use Rattle.deck_refusal.proofs.walk.Walk.awaits_primary.Goals as goal

pub returns : goal.returns
returns c = λ before come.
    primary_so before c.args.self.now c.in_ok-behind.behind c.is_none_left.result come c.in_ok-behind.ensures
    c.is_none_left.ensures
