use Rattle.std.proofs.Common.{◌≡◌, ◌<◌, ◌≤◌, length, get_or, Some, sym, ◌∙◌, ap, subst, arith}
use Rattle.std.proofs.lemmas.Option.{slice_get-get_or}
use Rattle.std.specs.Prelude.{slice_get, IfSome}
use Rattle.ledger_core.specs.Jobs.{setup_for}
use Rattle.ledger_core.specs.Tokens.{Stock}
use Rattle.ledger_core.proofs.States.{shows_live, absent_dead, if_some_at}
use Rattle.ledger_core.proofs.state.State.layer.Goals as goal

pub returns-then-op-len-clause-live : goal.returns-then-op-len-clause-live
returns-then-op-len-clause-live g c =
    let s = setup_for g.J.Job.wiring g.J.Job.cost_of g.J.Job.budget g.J.Job.workers in
    let n = c.self.invariant.stocked.all in
    let m = c.self.invariant.counted.all in
    let there : c.args.op < length c.self.inside.shelf = grind arith in
    let none : Stock = record { op = 0; count = 0 } in
    let x = get_or c.self.inside.shelf c.args.op none in
    let e = slice_get-get_or c.self.inside.shelf c.args.op none there in
    rw (← c.self.view_is) (c.layer.ensures.some x e ∙ shows_live s c.self.inside.table.events c.self.inside.shelf c.args.op x c.self.invariant.stocked e)

pub returns-then-op-len-clause-right : goal.returns-then-op-len-clause-right
returns-then-op-len-clause-right g c =
    let n = c.self.invariant.stocked.all in
    let m = c.self.invariant.counted.all in
    let there : c.args.op < length c.self.inside.shelf = grind arith in
    let none : Stock = record { op = 0; count = 0 } in
    let x = get_or c.self.inside.shelf c.args.op none in
    let e = slice_get-get_or c.self.inside.shelf c.args.op none there in
    let o : x.op ≡ c.args.op = (c.self.invariant.stocked.each c.args.op x e).op in
    if_some_at c.layer.result _ _ (λ l p. subst (λ k. g.J.Job.right k l.now) o (p x e)) c.layer.ensures.right

pub returns-else-op-len-clause-live : goal.returns-else-op-len-clause-live
returns-else-op-len-clause-live g c =
    let m = c.self.invariant.counted.all in
    let far : length g.J.Job.wiring ≤ c.args.op = grind arith in
    rw (← c.self.view_is) (absent_dead (setup_for g.J.Job.wiring g.J.Job.cost_of g.J.Job.budget g.J.Job.workers) c.self.inside.table.events c.args.op c.self.invariant.legal far)
