use Rattle.std.proofs.Common.{◌≡◌, ◌<ℤ◌, int_lt, Some, None, [], drop, take, length, to_z, of_z, w64, rules, sym, subst, ap, arith, ◌∙◌}
use Rattle.std.proofs.lemmas.Int.{to_z-of_z}
use mir.Val.{SFits}
use Rattle.list_facts.proofs.Members.{all_drop}
use Rattle.chunked_list.proofs.Stretches.{place_within}
use Rattle.region_form.specs.declared.flip.Flip.{Flip}
use Rattle.region_form.specs.Flips.{IsRegion, squares}
use Rattle.region_sweep.specs.Counts.{AreWide}
use Rattle.region_sweep.specs.Working.Lines.{lower_line}
use Rattle.region_sweep.specs.Working.Sweeps.{IsSwept, reached, sweep}
use Rattle.region_sweep.proofs.Swept.{begun, end_region, end_squares, fewer, first_cut, passed, second_cut}
use Rattle.region_sweep.proofs.upwards.sweep.Goals as goal

pub loop-line-init : goal.loop-line-init
loop-line-init g c =
    let E = g.E.Evaluator in
    let evaluator = c.args.evaluator.now in
    let by = sweep (E.inside evaluator) (E.counted evaluator) g.V.Value.zero c.args.first.now c.args.second.now in
    let start = begun (E.inside evaluator) (E.counted evaluator) g.V.Value.zero c.args.first.now c.args.second.now (sym (g.met.E.Evaluator.counts_none evaluator)) (g.met.E.Evaluator.none_inside evaluator) in (
      subst (λ row. IsSwept by (reached row c.new-sweeping.result.flips.items c.args.first.now c.args.second.now)) (sym c.new-sweeping.ensures.row)
          (subst (λ out. IsSwept by (reached [] out c.args.first.now c.args.second.now)) (sym c.new-sweeping.ensures.flips) start),
      c.requires.first_wide,
      c.requires.second_wide,
      c.new-sweeping.ensures.pending,
    )

pub split_at-requires : goal.split_at-requires
split_at-requires g c =
    let line = to_z w64 (of_z w64 c.in-Some.line) in
    let left = c.loop-line.first_left.now in
    let e = c.count_up_to.ensures in
    let w = place_within (λ (f : Flip). int_lt line f.y) left in
    omega arith

pub split_at-requires-in-Some : goal.split_at-requires-in-Some
split_at-requires-in-Some g c =
    let line = to_z w64 (of_z w64 c.in-Some.line) in
    let left = c.loop-line.second_left.now in
    let e = c.count_up_to-in-Some.ensures in
    let w = place_within (λ (f : Flip). int_lt line f.y) left in
    omega arith

pub loop-line-smaller : goal.loop-line-smaller
loop-line-smaller g c =
    let line = to_z w64 (of_z w64 c.in-Some.line) in
    let left1 = c.loop-line.first_left.now in
    let left2 = c.loop-line.second_left.now in
    let e : lower_line left1 left2 ≡ Some c.in-Some.line = cc in
    let fits : SFits w64 c.in-Some.line = search rules in
    let at_line : line ≡ c.in-Some.line = to_z-of_z w64 c.in-Some.line fits in
    let later1 = ap length (c.split_at.ensures.back ∙ ap (λ n. drop n left1) c.count_up_to.ensures) in
    let later2 = ap length (c.split_at-in-Some.ensures.back ∙ ap (λ n. drop n left2) c.count_up_to-in-Some.ensures) in
    let less = fewer left1 left2 line (ap Some at_line ∙ sym e) in
    omega arith

pub loop-line-preserved : goal.loop-line-preserved
loop-line-preserved g c =
    let E = g.E.Evaluator in
    let evaluator = c.args.evaluator.now in
    let line = to_z w64 (of_z w64 c.in-Some.line) in
    let left1 = c.loop-line.first_left.now in
    let left2 = c.loop-line.second_left.now in
    let inv = c.loop-line.invariant in
    let e : lower_line left1 left2 ≡ Some c.in-Some.line = cc in
    let fits : SFits w64 c.in-Some.line = search rules in
    let at_line : line ≡ c.in-Some.line = to_z-of_z w64 c.in-Some.line fits in
    let is_next : Some line ≡ lower_line left1 left2 = ap Some at_line ∙ sym e in
    let now1 = c.split_at.ensures.front ∙ ap (λ n. take n left1) c.count_up_to.ensures in
    let later1 = c.split_at.ensures.back ∙ ap (λ n. drop n left1) c.count_up_to.ensures in
    let now2 = c.split_at-in-Some.ensures.front ∙ ap (λ n. take n left2) c.count_up_to-in-Some.ensures in
    let later2 = c.split_at-in-Some.ensures.back ∙ ap (λ n. drop n left2) c.count_up_to-in-Some.ensures in
    let out = c.in_ok-pass.ensures.flips in
    let a = first_cut (E.inside evaluator) (E.counted evaluator) g.V.Value.zero c.args.first.now c.args.second.now (E.first evaluator) (E.second evaluator) (g.met.E.Evaluator.counts_first evaluator) (g.met.E.Evaluator.counts_second evaluator) c.requires.first_rises c.requires.second_rises c.loop-line.sweeping.row c.pass.new.self.row c.loop-line.sweeping.flips.items c.pass.new.self.flips.items left1 left2 line inv.0 is_next c.split_at.result.0.now c.split_at.result.1.now now1 later1 in
    let b = second_cut (E.inside evaluator) (E.counted evaluator) g.V.Value.zero c.args.first.now c.args.second.now (E.first evaluator) (E.second evaluator) (g.met.E.Evaluator.counts_first evaluator) (g.met.E.Evaluator.counts_second evaluator) c.requires.first_rises c.requires.second_rises c.loop-line.sweeping.row c.pass.new.self.row c.loop-line.sweeping.flips.items c.pass.new.self.flips.items left1 left2 line inv.0 is_next c.split_at-in-Some.result.0.now c.split_at-in-Some.result.1.now now2 later2 in (
      passed (E.inside evaluator) (E.counted evaluator) g.V.Value.zero c.args.first.now c.args.second.now (E.first evaluator) (E.second evaluator) (g.met.E.Evaluator.counts_first evaluator) (g.met.E.Evaluator.counts_second evaluator) c.requires.first_rises c.requires.second_rises c.loop-line.sweeping.row c.pass.new.self.row c.loop-line.sweeping.flips.items c.pass.new.self.flips.items left1 left2 line inv.0 is_next c.split_at.result.0.now c.split_at.result.1.now c.split_at-in-Some.result.0.now c.split_at-in-Some.result.1.now a b c.in_ok-pass.ensures.values out.0 out.1 out.2 out.3 out.4,
      subst AreWide (sym c.split_at.ensures.back) (all_drop (λ (f : Flip). f.x0 <ℤ f.x1) c.count_up_to.result left1 inv.1),
      subst AreWide (sym c.split_at-in-Some.ensures.back) (all_drop (λ (f : Flip). f.x0 <ℤ f.x1) c.count_up_to-in-Some.result left2 inv.2),
      c.in_ok-pass.ensures.pending,
    )

pub replace_end-requires-clause-form : goal.replace_end-requires-clause-form
replace_end-requires-clause-form g c =
    let E = g.E.Evaluator in
    let evaluator = c.args.evaluator.now in
    let left1 = c.loop-line.first_left.now in
    let left2 = c.loop-line.second_left.now in
    let e : lower_line left1 left2 ≡ None = cc in
    subst IsRegion (sym c.deref.ensures.value) (end_region (E.inside evaluator) (E.counted evaluator) g.V.Value.zero c.args.first.now c.args.second.now c.loop-line.sweeping.row c.loop-line.sweeping.flips.items left1 left2 c.loop-line.invariant.0 (sym e) c.requires.closed)

pub returns : goal.returns
returns g c =
    let E = g.E.Evaluator in
    let evaluator = c.args.evaluator.now in
    let left1 = c.loop-line.first_left.now in
    let left2 = c.loop-line.second_left.now in
    let e : lower_line left1 left2 ≡ None = cc in
    λ x y.
    ap (λ fs. squares fs x y) (c.in_ok-replace_end.ensures.ok ∙ c.deref.ensures.value)
    ∙ end_squares (E.inside evaluator) (E.counted evaluator) g.V.Value.zero c.args.first.now c.args.second.now c.loop-line.sweeping.row c.loop-line.sweeping.flips.items left1 left2 c.loop-line.invariant.0 (sym e) x y
