-- The short ones of the maximal runs of a boundary are the maximal runs of what LENGTH keeps.
use Rattle.std.proofs.Common.{◌≡◌, ◌↔◌, ℕ, ℤ, List, sym, ap, subst, ◌∙◌}
use Rattle.std.specs.Prelude.{Result, Ok, Err, IfOk}
use Rattle.std.specs.Global.{Vec}
use Rattle.std.proofs.lemmas.List.Kept.{IsStrictlySortedBy-filter}
use Rattle.list_facts.specs.InOrder.{ListsInOrder}
use Rattle.list_facts.proofs.Members.{Has, has_filter, filter_has, all_from_has, all_weaker, has_holds, has_from_contains, contains_from_has}
use Rattle.drc_geom.specs.declared.rect.Rect.{Rect}
use Rattle.drc_geom.specs.declared.run.Run.{Run}
use Rattle.drc_geom.specs.Squares.{Squares, covered}
use Rattle.drc_geom.specs.Units.{AreSameUnits, boundary}
use Rattle.drc_geom.specs.Runs.{length_of, run_order, units_of, IsMaximalRun}
use Rattle.drc_geom.specs.Lengths.{IsLength}
use Rattle.drc_geom.proofs.Boundaries.{boundary_same}
use Rattle.drc_geom.proofs.Lengths.{IsWhole, kept_run, run_kept, length_listed, length_same}
use Rattle.edge_form.specs.Edges.{IsEdgeSet}
use Rattle.edge_form.proofs.Listed.{listed_in_order}
use Rattle.drc_cli.specs.ShortRuns.{is_shorter, IsShortRun}
use Rattle.drc_cli.specs.Working.ShortRuns.{short_of}

module _ (squares : Squares) (bound : ℕ) (runs : List Run) (listed : ListsInOrder run_order (IsMaximalRun (boundary squares)) runs) where
  whole_listed : (run : Run) → Has (short_of bound runs) run ↔ IsWhole (boundary squares) (is_shorter bound) run
  whole_listed run = (
    λ h. let kept = filter_has (λ r. is_shorter bound (length_of r)) runs run h in record { maximal = has_holds _ runs run listed.each kept.0; length = kept.1 },
    λ w. has_filter (λ r. is_shorter bound (length_of r)) runs run (has_from_contains runs run (listed.every run w.maximal)) w.length,
  )

  units : IsLength (boundary squares) (is_shorter bound) (units_of (short_of bound runs))
  units = length_listed (boundary squares) (is_shorter bound) (short_of bound runs) whole_listed

  pub short_in_order : ListsInOrder run_order (IsShortRun squares bound) (short_of bound runs)
  short_in_order = record {
    each = all_from_has _ (short_of bound runs) (λ run h. record { kept = units_of (short_of bound runs); units = units; maximal = kept_run _ _ _ units run ((whole_listed run).0 h) });
    every = λ run short. contains_from_has (short_of bound runs) run ((whole_listed run).1 (run_kept _ short.kept _ short.units run short.maximal));
    ordered = IsStrictlySortedBy-filter run_order (λ r. is_shorter bound (length_of r)) runs listed.ordered;
  }

-- the short runs of equal areas are the same
module _ (a b : Squares) (bound : ℕ) (same : (x y : ℤ) → a x y ≡ b x y) where
  one_way : (run : Run) → IsShortRun a bound run → IsShortRun b bound run
  one_way run short = record { kept = short.kept; units = length_same (boundary a) (boundary b) short.kept (is_shorter bound) (boundary_same a b same) short.units; maximal = short.maximal }

pub short_same : (a b : Squares) (bound : ℕ) (runs : List Run) → ((x y : ℤ) → a x y ≡ b x y) → ListsInOrder run_order (IsShortRun a bound) runs
    → ListsInOrder run_order (IsShortRun b bound) runs
short_same a b bound runs same listed = record {
  each = all_weaker _ _ (one_way a b bound same) runs listed.each;
  every = λ run short. listed.every run (one_way b a bound (λ x y. sym (same x y)) run short);
  ordered = listed.ordered;
}

-- ---- what is answered for an area

kept : {E : Type 0} (P : List Run → Type 0) (runs : List Run) → P runs → (result : Result (Vec Run) E) → IfOk result (λ answer. answer.items ≡ runs) → IfOk result (λ answer. P answer.items)
kept P runs holds (Ok answer) same = subst P (sym same) holds
kept P runs holds (Err e) same = tt

module _ (rects lent : List Rect) (bound : ℕ) (merged : Squares) (edges runs : List Run) (lent_is : lent ≡ rects) (runs_are : runs ≡ edges) (set : IsEdgeSet runs)
    (merged_is : (x y : ℤ) → merged x y ≡ covered lent x y) (edges_are : AreSameUnits (units_of edges) (boundary merged)) where
  answer : ListsInOrder run_order (IsShortRun (covered rects) bound) (short_of bound runs)
  answer =
      short_same merged (covered rects) bound (short_of bound runs) (λ x y. merged_is x y ∙ ap (λ (rs : List Rect). covered rs x y) lent_is)
      (short_in_order merged bound runs (listed_in_order runs (boundary merged) set (subst (λ (rs : List Run). AreSameUnits (units_of rs) (boundary merged)) (sym runs_are) edges_are)))

  pub answered : {E : Type 0} (result : Result (Vec Run) E) → IfOk result (λ short. short.items ≡ short_of bound runs)
      → IfOk result (λ short. ListsInOrder run_order (IsShortRun (covered rects) bound) short.items)
  answered result short = kept (ListsInOrder run_order (IsShortRun (covered rects) bound)) (short_of bound runs) answer result short
