-- The maximal runs of what LENGTH keeps are the maximal runs of its input that meet the limits.
use Rattle.std.proofs.Common.{◌≡◌, ◌↔◌, Bool, true, false, ℤ, ◌<ℤ◌, ◌≤ℤ◌, List, refl, sym, subst, ◌∙◌, arith}
use Rattle.std.proofs.lemmas.Bool.{false_from_ne_true}
use Rattle.std.proofs.lemmas.Int.{ints}
use Rattle.std.specs.Cmp.{both_ways}
use Rattle.list_facts.proofs.Members.{Has}
use Rattle.list_facts.proofs.Tests.{clash}
use Rattle.drc_geom.specs.declared.unit.Side.{Side}
use Rattle.drc_geom.specs.declared.run.Run.{Run}
use Rattle.drc_geom.specs.Units.{Units, AreSameUnits, has_unit}
use Rattle.drc_geom.specs.Runs.{length_of, units_of, IsMaximalRun, IsRunOf}
use Rattle.drc_geom.specs.Lengths.{IsKept, IsLength}
use Rattle.drc_geom.proofs.Boundaries.{maximal_same}
use Rattle.drc_geom.proofs.MaximalRuns.{maximal_runs_meet}
use Rattle.drc_geom.proofs.RunUnits.{IsOn, on_from_has, has_from_on, held_true, true_held, unit_held}

-- what holds of a maximal run of the input that meets the limits
pub record IsWhole (units : Units) (meets : ℤ → Bool) (run : Run) : Type 0 where
  pub maximal : IsMaximalRun units run
  pub length : meets (length_of run) ≡ true

module _ (units kept : Units) (meets : ℤ → Bool) (is : IsLength units meets kept) where
  -- a unit that is kept is one of the input
  kept_units : (side : Side) (line column : ℤ) → has_unit kept side line column ≡ true → has_unit units side line column ≡ true
  kept_units side line column e =
      let k : IsKept units meets side line column = (is.each side line column).0 e in
      let on : IsOn k.run side line column = on_from_has k.run side line column k.of.has in
      (λ i. has_unit units (sym on.one_side i) (sym on.one_line i) column) ∙ k.of.maximal.inside column on.begins on.ends

  not_kept : (side : Side) (line column : ℤ) → has_unit units side line column ≡ false → has_unit kept side line column ≡ false
  not_kept side line column none = false_from_ne_true _ (λ e. clash _ (kept_units side line column e) none)

  pub kept_run : (run : Run) → IsWhole units meets run → IsMaximalRun kept run
  kept_run run whole =
      record {
        not_empty = whole.maximal.not_empty;
        inside = λ column begins ends. (is.each run.side run.line column).1 (record {
          run = run;
          of = record { maximal = whole.maximal; has = has_from_on run run.side run.line column (record { one_side = refl; one_line = refl; begins = begins; ends = ends }) };
          length = whole.length;
        });
        before = not_kept run.side run.line _ whole.maximal.before;
        after = not_kept run.side run.line _ whole.maximal.after;
      }

  pub run_kept : (run : Run) → IsMaximalRun kept run → IsWhole units meets run
  run_kept run m =
      let first : run.lo ≤ℤ run.lo = omega (arith, ints) in
      let k : IsKept units meets run.side run.line run.lo = (is.each run.side run.line run.lo).0 (m.inside run.lo first m.not_empty) in
      let on : IsOn k.run run.side run.line run.lo = on_from_has k.run run.side run.line run.lo k.of.has in
      let whole : IsWhole units meets k.run = record { maximal = k.of.maximal; length = k.length } in
      let same : run ≡ k.run = maximal_runs_meet kept run k.run m (kept_run k.run whole) (sym on.one_side) (sym on.one_line) on.begins on.ends in
      subst (IsWhole units meets) (sym same) whole

-- what is kept is one set
pub one_length : (units : Units) (meets : ℤ → Bool) (a b : Units) → IsLength units meets a → IsLength units meets b → (side : Side) (line column : ℤ)
    → has_unit a side line column ≡ has_unit b side line column
one_length units meets a b p q side line column =
    both_ways _ _ (λ e. (q.each side line column).1 ((p.each side line column).0 e)) (λ e. (p.each side line column).1 ((q.each side line column).0 e))

-- it is the units of a list of the runs that meet the limits
pub length_listed : (units : Units) (meets : ℤ → Bool) (runs : List Run) → ((run : Run) → Has runs run ↔ IsWhole units meets run) → IsLength units meets (units_of runs)
length_listed units meets runs whole = record {
  each = λ side line column. (
    λ e.
        let h = held_true runs side line column (sym (unit_held runs side line column) ∙ e) in
        let w = (whole h.run).0 h.listed in
        record { run = h.run; of = record { maximal = w.maximal; has = has_from_on h.run side line column h.on }; length = w.length },
    λ k.
        unit_held runs side line column
        ∙ true_held runs k.run side line column ((whole k.run).1 (record { maximal = k.of.maximal; length = k.length })) (on_from_has k.run side line column k.of.has),
  );
}

-- of equal sets the same is kept
pub length_same : (a b kept : Units) (meets : ℤ → Bool) → AreSameUnits a b → IsLength a meets kept → IsLength b meets kept
length_same a b kept meets same is =
    let move = λ (c d : Units) (e : AreSameUnits c d) (side : Side) (line column : ℤ) (k : IsKept c meets side line column).
    let n : IsKept d meets side line column = record { run = k.run; of = record { maximal = maximal_same c d k.run e k.of.maximal; has = k.of.has }; length = k.length } in n in
    record {
      each = λ side line column. (
        λ e. move a b same side line column ((is.each side line column).0 e),
        λ k. (is.each side line column).1 (move b a (λ x y s. sym (same x y s)) side line column k),
      );
    }
