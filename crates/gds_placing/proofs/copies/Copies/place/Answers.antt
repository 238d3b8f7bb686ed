use Rattle.std.proofs.Common.{◌∙◌, sym, ap, subst}
use Rattle.drc_geom.specs.declared.point.Pt.{Pt}
use Rattle.gds_placing.specs.declared.place.Placement.{Placement}
use Rattle.gds_placing.specs.Places.{then_of, MayStand}
use Rattle.gds_placing.proofs.Corners.{copy_may_stand}
use Rattle.gds_placing.proofs.copies.Copies.place.Goals as goal

step_at : Placement → Pt → Placement
step_at place origin = record { turn = place.turn; magnification = place.magnification; origin = origin }

pub returns-clause-value : goal.returns-clause-value
unfolding step_at
returns-clause-value c =
    let copies = c.args.self.now in
    let step : Placement =
    record { turn = copies.turn; magnification = copies.magnification; origin = c.origin_at-origin.result } in
    c.then.ensures ∙ ap (λ o. then_of (step_at step o) c.args.outer.now) c.origin_at-origin.ensures.value

pub returns-clause-allowed : goal.returns-clause-allowed
returns-clause-allowed c =
    let need = c.requires in
    subst MayStand (sym (returns-clause-value c))
    (copy_may_stand c.args.outer.now c.args.self.now c.args.column c.args.row need.outer need.copies need.column need.row)
