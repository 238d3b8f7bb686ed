use Rattle.std.proofs.Common.{List, ap, ◌∙◌}
use Rattle.deck_grammar.specs.declared.kind.Kind.{Kind}
use Rattle.deck_refusal.specs.Working.SetAside.{is_set_aside}
use Rattle.deck_refusal.proofs.Going.{misplaced_so}
use Rattle.deck_refusal.proofs.walk.Walk.misplaced.Goals as goal

pub returns-then-is_set_aside : goal.returns-then-is_set_aside
returns-then-is_set_aside c = λ before come.
    let may = c.in_ok-may_start.may_start in
    let e = c.is_set_aside.ensures ∙ ap (λ (those : List Kind). is_set_aside may those c.args.kind)
    c.deref.ensures.value in
    (misplaced_so before c.args.self.now may c.is_set_aside.result c.args.kind come (c.in_ok-may_start.ensures before
    come) e).0 c.if-is_set_aside.true

pub returns-else-is_set_aside : goal.returns-else-is_set_aside
returns-else-is_set_aside c = λ before come.
    let may = c.in_ok-may_start.may_start in
    let e = c.is_set_aside.ensures ∙ ap (λ (those : List Kind). is_set_aside may those c.args.kind)
    c.deref.ensures.value in
    (misplaced_so before c.args.self.now may c.is_set_aside.result c.args.kind come (c.in_ok-may_start.ensures before
    come) e).1 c.if-is_set_aside.false
