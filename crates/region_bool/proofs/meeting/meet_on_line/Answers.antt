use Rattle.std.proofs.Common.{◌≡◌, ◌<ℤ◌, None, Option, of_z, to_z, w64, sym, subst, arith, ◌∙◌}
use Rattle.std.proofs.lemmas.Int.{ints}
use Rattle.region_form.specs.declared.flip.Flip.{Flip}
use Rattle.region_bool.specs.Working.Meetings.{IsMeeting, stretch, stretch_between}
use Rattle.region_bool.proofs.Meetings.{first_touches, second_touches, shares}
use Rattle.region_bool.proofs.meeting.meet_on_line.Goals as goal

pub returns-then-first-second : goal.returns-then-first-second
returns-then-first-second c =
    let f = c.args.first in
    let g = c.args.second in
    let y : to_z w64 (of_z w64 f.y) ≡ f.y = omega (arith, ints) in
    let a : to_z w64 (of_z w64 f.x0) ≡ f.x0 = omega (arith, ints) in
    let b : to_z w64 (of_z w64 g.x1) ≡ g.x1 = omega (arith, ints) in
    let t = c.if-first-second.true in
    let touches : f.x1 ≡ g.x0 = omega (arith, ints, t) in
    subst (λ (o : Option Flip). IsMeeting f g (record { passed = None; first = None; second = o }))
    (sym (c.stretch.ensures ∙ (λ i. stretch (y i) (a i) (b i))))
    (first_touches f g c.requires.line touches c.requires.first_wide c.requires.second_wide)

pub returns-then-second-first : goal.returns-then-second-first
returns-then-second-first c =
    let f = c.args.first in
    let g = c.args.second in
    let y : to_z w64 (of_z w64 f.y) ≡ f.y = omega (arith, ints) in
    let a : to_z w64 (of_z w64 g.x0) ≡ g.x0 = omega (arith, ints) in
    let b : to_z w64 (of_z w64 f.x1) ≡ f.x1 = omega (arith, ints) in
    let t = c.if-second-first.true in
    let touches : g.x1 ≡ f.x0 = omega (arith, ints, t) in
    subst (λ (o : Option Flip). IsMeeting f g (record { passed = None; first = o; second = None }))
    (sym (c.stretch-then-second-first.ensures ∙ (λ i. stretch (y i) (a i) (b i))))
    (second_touches f g c.requires.line touches c.requires.first_wide c.requires.second_wide)

pub returns-else-second-first : goal.returns-else-second-first
returns-else-second-first c =
    let f = c.args.first in
    let g = c.args.second in
    let y : to_z w64 (of_z w64 f.y) ≡ f.y = omega (arith, ints) in
    let f0 : to_z w64 (of_z w64 f.x0) ≡ f.x0 = omega (arith, ints) in
    let f1 : to_z w64 (of_z w64 f.x1) ≡ f.x1 = omega (arith, ints) in
    let g0 : to_z w64 (of_z w64 g.x0) ≡ g.x0 = omega (arith, ints) in
    let g1 : to_z w64 (of_z w64 g.x1) ≡ g.x1 = omega (arith, ints) in
    let r : g.x0 <ℤ f.x1 = grind (arith, ints, c.if-first-second.false, c.requires.first_reaches) in
    let s : f.x0 <ℤ g.x1 = grind (arith, ints, c.if-second-first.false, c.requires.second_reaches) in
    let passed = c.stretch_between.ensures ∙ (λ i. stretch_between (y i) (f0 i) (g0 i)) in
    let first = c.stretch-else-second-first.ensures ∙ (λ i. stretch (y i) (g1 i) (f1 i)) in
    let second = c.stretch-else-second-first-2.ensures ∙ (λ i. stretch (y i) (f1 i) (g1 i)) in
    subst (λ (o : Option Flip). IsMeeting f g (record { passed = o; first = c.stretch-else-second-first.result; second = c.stretch-else-second-first-2.result })) (sym passed)
    (subst (λ (o : Option Flip). IsMeeting f g (record { passed = stretch_between f.y f.x0 g.x0; first = o; second = c.stretch-else-second-first-2.result })) (sym first)
    (subst (λ (o : Option Flip). IsMeeting f g (record { passed = stretch_between f.y f.x0 g.x0; first = stretch f.y g.x1 f.x1; second = o })) (sym second)
    (shares f g c.requires.line c.requires.first_wide c.requires.second_wide r s)))
