use Rattle.std.proofs.Common.{◌≡◌, ◌++◌, pos, ◌+ℤ◌, int_le, if◌then◌else◌, ℤ, subst, sym, ◌∙◌, ap}
use Rattle.std.proofs.lemmas.Int.{to_z-of_z}
use Rattle.interval_row.specs.Rows.{has}
use Rattle.region_form.specs.Flips.{AreBelow, squares}
use Rattle.region_form.specs.Climbs.{Standpoint, IsStandpoint}
use Rattle.region_form.specs.LineFlips.{flips_on}
use Rattle.region_form.proofs.Changes.{below_append}
use Rattle.region_form.proofs.Steps.{risen_place, risen_squares}
use Rattle.region_form.proofs.builder.Builder.rise.Goals as goal

pub invariant_of-self-2 : goal.invariant_of-self-2
invariant_of-self-2 c =
    let f = c.ranges.line in
    let i = simp to_z-of_z at c.in_ok-flips.ensures.flips in
    let place : Standpoint = record { row = c.self.inside.row; flips = c.self.inside.flips.items } in
    let change = c.in_ok-change.change in
    let e : c.extend_from_slice.new.self.items ≡ place.flips ++ flips_on c.args.line change = cc c.in_ok-extend_from_slice.ensures.items in
    let b = subst (λ (p : Standpoint). AreBelow c.args.line p.flips) (sym c.self.view_is) c.requires in
    let r = c.flips_on.ensures.row in
    subst (λ fs. IsStandpoint (record { row = c.args.row; flips = fs })) (sym e) (risen_place place c.args.line change c.args.row c.self.invariant b r c.in_ok-change.ensures)

pub returns-clause-lines : goal.returns-clause-lines
returns-clause-lines c =
    let f = c.ranges.line in
    let i = simp to_z-of_z at c.in_ok-flips.ensures.flips in
    let place : Standpoint = record { row = c.self.inside.row; flips = c.self.inside.flips.items } in
    let change = c.in_ok-change.change in
    let e : c.extend_from_slice.new.self.items ≡ place.flips ++ flips_on c.args.line change = cc c.in_ok-extend_from_slice.ensures.items in
    let b = subst (λ (p : Standpoint). AreBelow c.args.line p.flips) (sym c.self.view_is) c.requires in
    subst (AreBelow (c.args.line +ℤ pos 1)) (sym e) (below_append c.args.line place.flips change b)

pub returns-clause-squares : goal.returns-clause-squares
returns-clause-squares c =
    let f = c.ranges.line in
    let i = simp to_z-of_z at c.in_ok-flips.ensures.flips in
    let place : Standpoint = record { row = c.self.inside.row; flips = c.self.inside.flips.items } in
    let change = c.in_ok-change.change in
    let e : c.extend_from_slice.new.self.items ≡ place.flips ++ flips_on c.args.line change = cc c.in_ok-extend_from_slice.ensures.items in
    let b = subst (λ (p : Standpoint). AreBelow c.args.line p.flips) (sym c.self.view_is) c.requires in
    let r = c.flips_on.ensures.row in
    subst (λ (p : Standpoint). (x y : ℤ) → squares c.extend_from_slice.new.self.items x y ≡ (if int_le c.args.line y then has c.args.row x else squares p.flips x y)) c.self.view_is
    (λ x y. ap (λ fs. squares fs x y) e ∙ risen_squares place c.args.line change c.args.row c.self.invariant b r c.in_ok-change.ensures x y)
