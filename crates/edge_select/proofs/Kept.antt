-- Whole runs of a set, taken in order: each stands behind those that were taken, and is clear of them.
use Rattle.std.proofs.Common.{◌≡◌, ◌↔◌, true, false, inl, inr, ◌⊎◌, ℕ, suc, ◌<◌, length, take, drop, get_or, drop-cons, ℤ, pos, ◌<ℤ◌, ◌≤ℤ◌, ◌-ℤ◌, List, [], ◌∷◌, ◌++◌, refl, sym, ap, subst, ◌∙◌, arith}
use Rattle.std.proofs.lemmas.Bool.{false_from_ne_true}
use Rattle.std.proofs.lemmas.Int.{ints, by_lt_z}
use Rattle.std.proofs.lemmas.List.{take-append-drop}
use Rattle.std.proofs.lemmas.Map.Keys.{sorted_tail}
use Rattle.std.specs.Cmp.{tied_itself}
use Rattle.std.specs.List.{AllByRecursion, filter}
use Rattle.std.specs.List.Sorted.{IsStrictlySortedBy}
use Rattle.std.specs.Ordering.{is_eq}
use Rattle.std.specs.Prelude.{Result, Ok, Err, IfOk}
use Rattle.std.specs.declared.cmp.Ordering.TheVariants.{Less}
use mathlib.Core.Bool.{true≢false}
use Rattle.list_facts.proofs.InOrder.{first_is_least}
use Rattle.list_facts.proofs.Members.{Has, all_from_has, filter_has, has_filter, has_from_contains, has_holds, has_left, has_right}
use Rattle.list_facts.proofs.Tests.{clash}
use Rattle.drc_geom.specs.declared.run.Run.{Run}
use Rattle.drc_geom.specs.Units.{has_unit}
use Rattle.drc_geom.specs.Runs.{IsMaximalRun, IsRun, length_of, run_order, units_of}
use Rattle.drc_geom.specs.RunOrder.{run_order_total}
use Rattle.drc_geom.specs.Lengths.{IsLength}
use Rattle.drc_geom.proofs.Lengths.{IsWhole, length_listed}
use Rattle.drc_geom.proofs.MaximalRuns.{maximal_runs_meet}
use Rattle.drc_geom.proofs.RunUnits.{IsHeld, IsOn, held_true, true_held, unit_held}
use Rattle.edge_form.specs.Edges.{IsClearOf, IsEdgeSet}
use Rattle.edge_form.proofs.Listed.{maximal_listed}
use Rattle.layer_model.specs.declared.limits.Limits.{Limits}
use Rattle.edge_select.specs.LengthLimits.{meets_length}
use Rattle.edge_select.specs.Working.Whole.{whole_runs}

-- the items before one stand below it
below : (before : List Run) (run : Run) (behind : List Run) (other : Run) → IsStrictlySortedBy run_order (before ++ run ∷ behind) → Has before other → run_order other run ≡ Less
below [] run behind other s h = absurd h
below (b ∷ bs) run behind other s h =
    elim h [
      | inl e ↦ subst (λ r. run_order r run ≡ Less) e (first_is_least run_order run_order_total b run (bs ++ run ∷ behind) s (has_right bs (run ∷ behind) run (inl refl)))
      | inr k ↦ below bs run behind other (sorted_tail run_order b (bs ++ run ∷ behind) s) k
    ]

not_below_itself : (run : Run) → run_order run run ≡ Less → ⊥
not_below_itself run e = true≢false (ap is_eq (sym (tied_itself run_order_total run) ∙ e))

module _ (limits : Limits) (before : List Run) (run : Run) (behind : List Run) (form : IsEdgeSet (before ++ run ∷ behind)) where
  abbrev all : List Run
  all = before ++ run ∷ behind

  listed : Has all run
  listed = has_right before (run ∷ behind) run (inl refl)

  maximal : IsMaximalRun (units_of all) run
  maximal = has_holds (IsMaximalRun (units_of all)) all run form.maximal listed

  pub filled : IsRun run
  filled = maximal.not_empty

  pub last : AllByRecursion (λ other. run_order other run ≡ Less) (whole_runs limits before)
  last = all_from_has _ (whole_runs limits before) (λ other h. below before run behind other form.ordered (filter_has (λ r. meets_length limits (length_of r)) before other h).0)

  -- a run before has no unit of this one, nor one next to it
  apart : (other : Run) (column : ℤ) → Has before other → IsOn other run.side run.line column → (run.lo -ℤ pos 1) ≤ℤ column → column ≤ℤ run.hi → ⊥
  apart other column h on p q =
      let held : has_unit (units_of all) run.side run.line column ≡ true =
      unit_held all run.side run.line column ∙ true_held all other run.side run.line column (has_left before (run ∷ behind) other h) on in
      let theirs : IsMaximalRun (units_of all) other = has_holds (IsMaximalRun (units_of all)) all other form.maximal (has_left before (run ∷ behind) other h) in
      by_lt_z column run.lo
      (λ l. let e : column ≡ run.lo -ℤ pos 1 = omega (arith, ints) in clash _ (subst (λ c. has_unit (units_of all) run.side run.line c ≡ true) e held) maximal.before)
      (λ l. by_lt_z column run.hi
      (λ m. not_below_itself run (subst (λ r. run_order r run ≡ Less) (same other column on theirs l m) (below before run behind other form.ordered h)))
      (λ m. let e : column ≡ run.hi = omega (arith, ints) in clash _ (subst (λ c. has_unit (units_of all) run.side run.line c ≡ true) e held) maximal.after))
    where
      same : (other : Run) (column : ℤ) → IsOn other run.side run.line column → IsMaximalRun (units_of all) other → run.lo ≤ℤ column → column <ℤ run.hi → other ≡ run
      same other column on theirs l m =
          by_lt_z other.lo run.lo
          (λ d. sym (maximal_runs_meet (units_of all) run other maximal theirs (sym on.one_side) (sym on.one_line) (omega (arith, ints)) (let e : column <ℤ other.hi = on.ends in omega (arith, ints))))
          (λ d. maximal_runs_meet (units_of all) other run theirs maximal on.one_side on.one_line d (let b : other.lo ≤ℤ column = on.begins in omega (arith, ints)))

  pub clear : IsClearOf (whole_runs limits before) run
  clear column p q = false_from_ne_true _ (λ e.
      let h : IsHeld (whole_runs limits before) run.side run.line column =
      held_true (whole_runs limits before) run.side run.line column (sym (unit_held (whole_runs limits before) run.side run.line column) ∙ e) in
      apart h.run column (filter_has (λ r. meets_length limits (length_of r)) before h.run h.listed).0 h.on p q)

-- the same of a place of the list
module _ (limits : Limits) (runs : List Run) (i : ℕ) (d : Run) (within : i < length runs) (form : IsEdgeSet runs) where
  split : IsEdgeSet (take i runs ++ get_or runs i d ∷ drop (suc i) runs)
  split = subst IsEdgeSet (sym (take-append-drop i runs) ∙ ap (λ l. take i runs ++ l) (drop-cons runs i d within)) form

  pub last_at : (kept : List Run) → kept ≡ whole_runs limits (take i runs) → AllByRecursion (λ other. run_order other (get_or runs i d) ≡ Less) kept
  last_at kept e = subst (λ k. AllByRecursion (λ other. run_order other (get_or runs i d) ≡ Less) k) (sym e) (last limits (take i runs) (get_or runs i d) (drop (suc i) runs) split)

  pub clear_at : (kept : List Run) → kept ≡ whole_runs limits (take i runs) → IsClearOf kept (get_or runs i d)
  clear_at kept e = subst (λ k. IsClearOf k (get_or runs i d)) (sym e) (clear limits (take i runs) (get_or runs i d) (drop (suc i) runs) split)

-- the whole runs of a set are what LENGTH keeps
pub kept_is_length : (limits : Limits) (runs : List Run) → IsEdgeSet runs → IsLength (units_of runs) (meets_length limits) (units_of (whole_runs limits runs))
kept_is_length limits runs form =
    length_listed (units_of runs) (meets_length limits) (whole_runs limits runs) (λ run. (
      λ h. let kept = filter_has (λ r. meets_length limits (length_of r)) runs run h in
          record { maximal = has_holds (IsMaximalRun (units_of runs)) runs run form.maximal kept.0; length = kept.1 },
      λ w. has_filter (λ r. meets_length limits (length_of r)) runs run (listed_run run w.maximal) w.length,
    ))
  where
    listed_run : (run : Run) → IsMaximalRun (units_of runs) run → Has runs run
    listed_run run m = has_from_contains runs run ((maximal_listed runs run form).0 m)

-- what is answered for a set whose runs are lent
pub answered : {E : Type 0} (limits : Limits) (edges runs : List Run) → runs ≡ edges → IsEdgeSet runs
    → (result : Result (List Run) E) → IfOk result (λ kept. kept ≡ whole_runs limits runs)
    → IfOk result (λ kept. IsLength (units_of edges) (meets_length limits) (units_of kept))
answered limits edges runs lent form (Ok kept) same =
    subst (λ rs. IsLength (units_of rs) (meets_length limits) (units_of kept)) lent
    (subst (λ k. IsLength (units_of runs) (meets_length limits) (units_of k)) (sym same) (kept_is_length limits runs form))
answered limits edges runs lent form (Err e) same = tt
