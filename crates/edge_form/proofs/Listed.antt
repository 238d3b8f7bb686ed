-- A set of units lists exactly its maximal runs, so equal sets have equal lists.
use Rattle.std.proofs.Common.{◌≡◌, ◌↔◌, true, ℤ, ◌<ℤ◌, ◌≤ℤ◌, List, sym, subst, ◌∙◌, arith}
use Rattle.std.proofs.lemmas.Int.{ints}
use Rattle.std.specs.List.{Contains}
use Rattle.drc_geom.specs.declared.unit.Side.{Side}
use Rattle.drc_geom.specs.declared.run.Run.{Run}
use Rattle.drc_geom.specs.Units.{Units, AreSameUnits, has_unit}
use Rattle.drc_geom.specs.Runs.{IsMaximalRun, IsRunOf, run_order, units_of}
use Rattle.drc_geom.specs.RunOrder.{run_order_total}
use Rattle.drc_geom.proofs.Boundaries.{maximal_same}
use Rattle.drc_geom.proofs.MaximalRuns.{maximal_runs_meet}
use Rattle.drc_geom.proofs.RunUnits.{IsHeld, has_from_on, held_true, unit_held}
use Rattle.list_facts.specs.InOrder.{ListsInOrder}
use Rattle.list_facts.proofs.InOrder.{ordered_same}
use Rattle.list_facts.proofs.Members.{Has, all_from_has, has_from_contains, contains_from_has, has_holds}
use Rattle.edge_form.specs.Edges.{IsEdgeSet}

-- each unit of a set has its run in the list
pub run_of_unit : (runs : List Run) (side : Side) (line column : ℤ) → IsEdgeSet runs → has_unit (units_of runs) side line column ≡ true → (run : Run) × Has runs run × IsRunOf (units_of runs) side line column run
run_of_unit runs side line column form e =
    let h : IsHeld runs side line column = held_true runs side line column (sym (unit_held runs side line column) ∙ e) in (
      h.run,
      h.listed,
      record { maximal = has_holds (IsMaximalRun (units_of runs)) runs h.run form.maximal h.listed; has = has_from_on h.run side line column h.on },
    )

listed_has : (runs : List Run) (run : Run) → IsEdgeSet runs → IsMaximalRun (units_of runs) run → Has runs run
listed_has runs run form m =
    let f : run.lo <ℤ run.hi = m.not_empty in
    let first : run.lo ≤ℤ run.lo = omega (arith, ints) in
    let h : IsHeld runs run.side run.line run.lo = held_true runs run.side run.line run.lo (sym (unit_held runs run.side run.line run.lo) ∙ m.inside run.lo first f) in
    let n = has_holds (IsMaximalRun (units_of runs)) runs h.run form.maximal h.listed in
    let e : run ≡ h.run = maximal_runs_meet (units_of runs) run h.run m n (sym h.on.one_side) (sym h.on.one_line) h.on.begins h.on.ends in
    subst (Has runs) (sym e) h.listed

-- the runs of a set are the maximal runs of its units
pub maximal_listed : (runs : List Run) (run : Run) → IsEdgeSet runs → IsMaximalRun (units_of runs) run ↔ Contains runs run
maximal_listed runs run form = (
  λ m. contains_from_has runs run (listed_has runs run form m),
  λ h. has_holds (IsMaximalRun (units_of runs)) runs run form.maximal (has_from_contains runs run h),
)

-- the same of units that are known otherwise
pub maximal_listed_of : (runs : List Run) (units : Units) (run : Run) → IsEdgeSet runs → AreSameUnits (units_of runs) units → IsMaximalRun units run ↔ Contains runs run
maximal_listed_of runs units run form e = (
  λ m. (maximal_listed runs run form).0 (maximal_same units (units_of runs) run (λ x y side. sym (e x y side)) m),
  λ h. maximal_same (units_of runs) units run e ((maximal_listed runs run form).1 h),
)

-- and all at once: the list holds the maximal runs, each once, in run order
pub listed_in_order : (runs : List Run) (units : Units) → IsEdgeSet runs → AreSameUnits (units_of runs) units → ListsInOrder run_order (IsMaximalRun units) runs
listed_in_order runs units form e =
    record {
      each = all_from_has (IsMaximalRun units) runs (λ run h. (maximal_listed_of runs units run form e).1 (contains_from_has runs run h));
      every = λ run m. (maximal_listed_of runs units run form e).0 m;
      ordered = form.ordered;
    }

-- the other way round: such a list is a set's form once it has the units
pub edge_set_from_listed : (runs : List Run) (units : Units) → ListsInOrder run_order (IsMaximalRun units) runs → AreSameUnits (units_of runs) units → IsEdgeSet runs
edge_set_from_listed runs units l e =
    record {
      ordered = l.ordered;
      maximal = all_from_has (IsMaximalRun (units_of runs)) runs (λ run h.
          maximal_same units (units_of runs) run (λ x y side. sym (e x y side)) (has_holds (IsMaximalRun units) runs run l.each h));
    }

pub same_runs : (a b : List Run) → IsEdgeSet a → IsEdgeSet b → AreSameUnits (units_of a) (units_of b) → a ≡ b
same_runs a b f g e =
    ordered_same run_order run_order_total a b f.ordered g.ordered (λ run. (
      λ h. (maximal_listed_of b (units_of a) run g (λ x y side. sym (e x y side))).0 ((maximal_listed a run f).1 h),
      λ h. (maximal_listed_of a (units_of b) run f e).0 ((maximal_listed b run g).1 h),
    ))
