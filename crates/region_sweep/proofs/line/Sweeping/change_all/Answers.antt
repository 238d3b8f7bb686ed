use Rattle.std.proofs.Common.{◌+◌, pos, drop, get_or, sym, ap, ◌∙◌}
use Rattle.std.proofs.lemmas.List.{drop_more, drop_all}
use Rattle.row_state.specs.Entries.{value_from}
use Rattle.region_form.specs.declared.flip.Flip.{Flip}
use Rattle.region_form.specs.Flips.{changes}
use Rattle.region_sweep.specs.Counts.{times}
use Rattle.region_sweep.specs.Working.Sweeps.{repeated}
use Rattle.region_sweep.proofs.CountedFlips.{repeated_more}
use Rattle.region_sweep.proofs.line.Sweeping.change_all.Goals as goal

pub loop-flip-preserved : goal.loop-flip-preserved
loop-flip-preserved g c =
    let makes = g.C.Change.makes c.args.change.now in
    let flips = c.args.flips.now in
    let i = c.loop-flip.flip-index in
    let d : Flip = record { y = pos 0; x0 = pos 0; x1 = pos 0 } in
    let f = get_or flips i d in
    let rest = drop (i + 1) flips in
    let more = drop_more flips i d c.loop-flip-test.true in
    let inv = c.loop-flip.invariant in (
      λ x.
          let v = value_from g.V.Value.zero c.loop-flip.self.row x in
          ap (repeated makes (times rest x)) (c.in_ok-change_one.ensures.values x)
          ∙ (sym (repeated_more makes (changes f x) (times rest x) v)
          ∙ (ap (λ fs. repeated makes (times fs x) v) (sym more) ∙ inv.0 x)),
      λ x. c.in_ok-change_one.ensures.ends x ∙ inv.1 x,
      c.in_ok-change_one.ensures.number ∙ inv.2,
      c.in_ok-change_one.ensures.flips ∙ inv.3,
    )

pub returns-clause-values : goal.returns-clause-values
returns-clause-values g c =
    λ x. ap (λ fs. repeated (g.C.Change.makes c.args.change.now) (times fs x) (value_from g.V.Value.zero c.loop-flip.self.row x)) (sym (drop_all c.loop-flip.flip-index c.args.flips.now c.loop-flip-test.false)) ∙ c.loop-flip.invariant.0 x
