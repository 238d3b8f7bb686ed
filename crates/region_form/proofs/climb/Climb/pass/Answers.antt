use Rattle.std.proofs.Common.{◌≡◌, ◌≤◌, length, ℤ, ◌<ℤ◌, subst, sym, ◌∙◌, ap}
use Rattle.std.proofs.lemmas.Int.{to_z-of_z}
use Rattle.list_facts.specs.EitherOr.{exactly_one}
use Rattle.interval_row.specs.Rows.{has}
use Rattle.region_form.specs.Climbs.{Standpoint, LiesBelow, first_line, flips_above}
use Rattle.region_form.specs.Working.Changes.{spans_up_to}
use Rattle.region_form.proofs.FlipLines.{from_next}
use Rattle.region_form.proofs.Changes.{spans_row, drop_passed, passed_within}
use Rattle.region_form.proofs.Steps.{passed_place, passed_ahead}
use Rattle.region_form.proofs.climb.Climb.pass.Goals as goal

pub row_up_to-requires : goal.row_up_to-requires
row_up_to-requires c =
    let r = c.ranges.line in
    let fs = c.self.inside.flips.now in
    let n = subst (λ (p : Standpoint). (y : ℤ) → y <ℤ c.args.line → LiesBelow y (first_line p.flips)) (sym c.self.view_is) c.requires in
    simp to_z-of_z (spans_row c.args.line fs c.self.invariant.sorted (from_next c.args.line fs n))

pub flips_behind-self-inside-requires : goal.flips_behind-self-inside-requires
flips_behind-self-inside-requires c =
    let r = c.ranges.line in
    let fs = c.self.inside.flips.now in
    let i = simp to_z-of_z at c.in_ok-change.ensures in
    let e : c.list.result.now ≡ spans_up_to c.args.line fs = cc in
    subst (λ ss. length ss ≤ length fs) (sym e) (passed_within c.args.line fs)

pub invariant_of-self : goal.invariant_of-self
invariant_of-self c =
    let r = c.ranges.line in
    let place : Standpoint = record { row = c.self.inside.row; flips = c.self.inside.flips.now } in
    let line = c.args.line in
    let i = simp to_z-of_z at c.in_ok-change.ensures in
    let d = drop_passed line place.flips in
    let e : c.flips_behind-self-inside.result.now ≡ flips_above line place.flips = cc in
    let n = subst (λ (p : Standpoint). (y : ℤ) → y <ℤ line → LiesBelow y (first_line p.flips)) (sym c.self.view_is) c.requires in
    let h = subst (λ ss. (x : ℤ) → has c.in_ok-row.row x ≡ exactly_one (has place.row x) (has ss x)) i c.in_ok-row.ensures in
    rw (c.replace.ensures.after, e) (passed_place place line c.in_ok-row.row c.self.invariant (from_next line place.flips n) h)

pub returns-clause-flips : goal.returns-clause-flips
returns-clause-flips c =
    let r = c.ranges.line in
    let i = simp to_z-of_z at c.in_ok-change.ensures in
    let fs = c.self.inside.flips.now in
    let d = drop_passed c.args.line fs in
    let e : c.flips_behind-self-inside.result.now ≡ flips_above c.args.line fs = cc in
    e ∙ ap (λ (p : Standpoint). flips_above c.args.line p.flips) c.self.view_is

pub returns-clause-ahead : goal.returns-clause-ahead
returns-clause-ahead c =
    let r = c.ranges.line in
    let place : Standpoint = record { row = c.self.inside.row; flips = c.self.inside.flips.now } in
    let line = c.args.line in
    let i = simp to_z-of_z at c.in_ok-change.ensures in
    let d = drop_passed line place.flips in
    let e : c.flips_behind-self-inside.result.now ≡ flips_above line place.flips = cc in
    let n = subst (λ (p : Standpoint). (y : ℤ) → y <ℤ line → LiesBelow y (first_line p.flips)) (sym c.self.view_is) c.requires in
    let h = subst (λ ss. (x : ℤ) → has c.in_ok-row.row x ≡ exactly_one (has place.row x) (has ss x)) i c.in_ok-row.ensures in
    let a = passed_ahead place line c.in_ok-row.row c.self.invariant (from_next line place.flips n) h in
    λ x y k. rw (c.replace.ensures.after, e, ← c.self.view_is) (a x y k)
