use Rattle.std.proofs.Common.{◌≡◌, ◌++◌, List, int_le, int_lt, to_z, of_z, w64, rules, ap, sym, ◌∙◌}
use Rattle.std.proofs.lemmas.Int.{to_z-of_z}
use Rattle.std.specs.List.{before_first}
use mir.Val.{SFits}
use Rattle.chunked_list.specs.Stretches.{from_first}
use Rattle.edge_of_region.specs.declared.upright.Upright.{Upright}
use Rattle.edge_of_region.specs.Working.Walks.{below_all, sides_all}
use Rattle.edge_of_region.proofs.Sweeping.{monotone_up_to, put_back, runs_walked}
use Rattle.edge_of_region.proofs.downwards.pass.Goals as goal

pub read-requires : goal.read-requires
read-requires c = monotone_up_to _ c.args.all.now c.requires

pub replace-requires-clause-order : goal.replace-requires-clause-order
replace-requires-clause-order c = monotone_up_to _ c.args.all.now c.requires

pub returns-clause-all : goal.returns-clause-all
returns-clause-all c =
    let f = c.args.flip in
    let fits0 : SFits w64 f.x0 = search rules in
    let fits1 : SFits w64 f.x1 = search rules in
    let is_above = c.deref.ensures.value ∙ (c.in_ok-behind.ensures.stretch ∙ ap (λ (us : List Upright). us ++ before_first (λ (u : Upright). int_lt u.line (to_z w64 (of_z w64 f.x0))) (from_first (λ (u : Upright). int_le u.line (to_z w64 (of_z w64 f.x1))) c.args.all.now)) c.clear.ensures.items) in
    let is_below = c.deref-2.ensures.value ∙ (c.in_ok-walk.ensures.below ∙ ap (λ (us : List Upright). us ++ below_all f c.is_east.result c.deref.result.now) c.clear-2.ensures.items) in
    put_back f (to_z w64 (of_z w64 f.x0)) (to_z w64 (of_z w64 f.x1)) (to_z-of_z w64 f.x0 fits0) (to_z-of_z w64 f.x1 fits1) c.args.all.now c.deref.result.now c.in_ok-behind.behind c.is_east.result is_above c.in_ok-behind.ensures.before c.is_east.ensures
    c.deref-2.result.now c.replace.new.self c.len.result is_below (c.len.ensures ∙ sym c.deref.ensures.len) c.in_ok-replace.ensures.ok

pub returns-clause-runs : goal.returns-clause-runs
returns-clause-runs c =
    let f = c.args.flip in
    let fits0 : SFits w64 f.x0 = search rules in
    let fits1 : SFits w64 f.x1 = search rules in
    let is_above = c.deref.ensures.value ∙ (c.in_ok-behind.ensures.stretch ∙ ap (λ (us : List Upright). us ++ before_first (λ (u : Upright). int_lt u.line (to_z w64 (of_z w64 f.x0))) (from_first (λ (u : Upright). int_le u.line (to_z w64 (of_z w64 f.x1))) c.args.all.now)) c.clear.ensures.items) in
    runs_walked f (to_z w64 (of_z w64 f.x0)) (to_z w64 (of_z w64 f.x1)) (to_z-of_z w64 f.x0 fits0) (to_z-of_z w64 f.x1 fits1) c.args.all.now c.deref.result.now c.in_ok-behind.behind c.is_east.result is_above c.in_ok-behind.ensures.before c.is_east.ensures
    c.args.runs.now.items c.walk.new.sides.items c.in_ok-walk.ensures.sides
