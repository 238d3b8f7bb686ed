use Rattle.std.proofs.Common.{◌≡◌, ◌<◌, ◌≤◌, length, get_or, sym, ◌∙◌, subst, arith}
use Rattle.std.proofs.lemmas.Option.{slice_get-get_or}
use Rattle.ledger_core.specs.Tokens.{Stock}
use Rattle.ledger_core.proofs.States.{if_some_at}
use Rattle.ledger_core.proofs.Endings.{absent_unreported}
use Rattle.ledger_core.proofs.ended.Reported.layer.Goals as goal

pub returns-then-op-len-clause-reported : goal.returns-then-op-len-clause-reported
returns-then-op-len-clause-reported g c =
    let there : c.args.op < length c.self.inside.shelf = grind arith in
    let none : Stock = record { op = 0; count = 0 } in
    let x = get_or c.self.inside.shelf c.args.op none in
    let e = slice_get-get_or c.self.inside.shelf c.args.op none there in
    c.layer.ensures.some x e ∙ c.self.invariant.shown c.args.op x e

pub returns-then-op-len-clause-right : goal.returns-then-op-len-clause-right
returns-then-op-len-clause-right g c =
    let there : c.args.op < length c.self.inside.shelf = grind arith in
    let none : Stock = record { op = 0; count = 0 } in
    let x = get_or c.self.inside.shelf c.args.op none in
    let e = slice_get-get_or c.self.inside.shelf c.args.op none there in
    if_some_at c.layer.result _ _ (λ l p. subst (λ k. g.J.Job.right k l.now) (c.self.invariant.op c.args.op x e) (p x e)) c.layer.ensures.right

pub returns-else-op-len-clause-reported : goal.returns-else-op-len-clause-reported
returns-else-op-len-clause-reported g c =
    let m = c.self.invariant.all in
    let far : length g.J.Job.wiring ≤ c.args.op = grind arith in
    absent_unreported g.J.Job.wiring c.args.op far
