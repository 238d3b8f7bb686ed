use Rattle.std.proofs.Common.{◌≡◌, ◌++◌, to_z, of_z, w64, ap, ◌∙◌}
use Rattle.std.proofs.lemmas.Int.{to_z-of_z}
use Rattle.list_facts.specs.EitherOr.{exactly_one}
use Rattle.row_state.specs.Entries.{value_from}
use Rattle.region_sweep.specs.Working.Ends.{flips_of, is_odd_number, odd_ends}
use Rattle.region_sweep.proofs.Turned.{from_kept}
use Rattle.region_sweep.proofs.line.Sweeping.pass.Goals as goal

pub returns-clause-flips : goal.returns-clause-flips
returns-clause-flips g c =
    let inside = g.E.Evaluator.inside c.args.evaluator.now in
    let zero = g.V.Value.zero in
    let old = c.args.self.now in
    let new = c.change_all-2.new.self in
    let kept = c.cancel.new.kept.items in
    let line = to_z w64 (of_z w64 c.args.line) in
    let at_line : line ≡ c.args.line = to_z-of_z w64 c.args.line c.ranges.line in (
      kept,
      c.in_ok-cancel.ensures.ascend,
      c.in_ok-cancel.ensures.number ∙ (c.in_ok-change_all-2.ensures.number ∙ (c.in_ok-change_all.ensures.number ∙ ap is_odd_number c.requires.pending)),
      λ x. c.in_ok-cancel.ensures.odd x
          ∙ from_kept (odd_ends new.pending.items x) (inside (value_from zero new.row x)) (inside (value_from zero old.row x))
          (c.in_ok-change_all-2.ensures.ends x ∙ (c.in_ok-change_all.ensures.ends x ∙ ap (λ es. exactly_one (odd_ends es x) (inside (value_from zero old.row x))) c.requires.pending)),
      c.in_ok-push_flips.ensures
          ∙ (ap (λ es. new.flips.items ++ flips_of line es) c.deref.ensures.value
          ∙ (ap (λ l. new.flips.items ++ flips_of l kept) at_line
          ∙ ap (λ fs. fs ++ flips_of c.args.line kept) (c.in_ok-change_all-2.ensures.flips ∙ c.in_ok-change_all.ensures.flips))),
    )
