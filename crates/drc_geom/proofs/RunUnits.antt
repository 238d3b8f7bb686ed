-- Which units runs have: a list has a unit where one of its runs has the unit's side and line, and columns round it.
use Rattle.std.proofs.Common.{◌≡◌, ◌&&◌, ◌==◌, inl, inr, ℤ, pos, ◌<ℤ◌, ◌≤ℤ◌, ◌-ℤ◌, List, [], ◌∷◌, refl, sym, ap, subst, ◌∙◌, arith, false, true, eq-eqb}
use Rattle.std.proofs.lemmas.Bool.{and_from, eqb-true, false_from_ne_true, or_cases, or_left, or_right}
use Rattle.std.proofs.lemmas.Int.{ints}
use Rattle.std.specs.Cmp.{both_ways, first_so, second_so}
use Rattle.std.proofs.lemmas.List.Sorted.{IsPermutation-sym}
use Rattle.std.specs.List.Sorted.{IsPermutation}
use Rattle.std.specs.Ordering.{int_eq}
use mathlib.Core.Bool.{true≢false}
use Rattle.list_facts.specs.Between.{between}
use Rattle.list_facts.proofs.Members.{Has, has_permuted}
use Rattle.list_facts.proofs.Tests.{between_true, eq_from_true, eq_true, from_between, up_to_between}
use Rattle.drc_geom.specs.declared.unit.Side.{Side}
use Rattle.drc_geom.specs.declared.unit.Side.TheVariants.{N, E, S, W}
use Rattle.drc_geom.specs.declared.run.Run.{Run}
use Rattle.drc_geom.specs.Units.{AreSameUnits, line_of, column_of, square_x, square_y, has_unit}
use Rattle.drc_geom.specs.Runs.{side_rank, run_has, runs_have, units_of, IsMaximalRun}
use Rattle.drc_geom.specs.RunOrder.{same_side}

-- the run has the unit with this side, on this line, in this column
pub record IsOn (run : Run) (side : Side) (line column : ℤ) : Type 0 where
  pub one_side : run.side ≡ side
  pub one_line : run.line ≡ line
  pub begins : run.lo ≤ℤ column
  pub ends : column <ℤ run.hi

-- a run of the list has it
pub record IsHeld (runs : List Run) (side : Side) (line column : ℤ) : Type 0 where
  pub run : Run
  pub listed : Has runs run
  pub on : IsOn run side line column

pub on_from_has : (r : Run) (side : Side) (line column : ℤ) → run_has r side line column ≡ true → IsOn r side line column
on_from_has r side line column e =
    let f = first_so ((side_rank r.side == side_rank side) && int_eq r.line line) (between r.lo r.hi column) e in
    let g = second_so ((side_rank r.side == side_rank side) && int_eq r.line line) (between r.lo r.hi column) e in
    record {
      one_side = same_side r.side side (eqb-true _ _ (first_so (side_rank r.side == side_rank side) (int_eq r.line line) f));
      one_line = eq_from_true r.line line (second_so (side_rank r.side == side_rank side) (int_eq r.line line) f);
      begins = from_between r.lo r.hi column g;
      ends = up_to_between r.lo r.hi column g;
    }

pub has_from_on : (r : Run) (side : Side) (line column : ℤ) → IsOn r side line column → run_has r side line column ≡ true
has_from_on r side line column h =
    and_from _ _ (and_from _ _ (eq-eqb _ _ (ap side_rank h.one_side)) (eq_true r.line line h.one_line)) (between_true r.lo r.hi column h.begins h.ends)

pub held_true : (runs : List Run) (side : Side) (line column : ℤ) → runs_have runs side line column ≡ true → IsHeld runs side line column
held_true [] side line column e = absurd (true≢false (sym e))
held_true (r ∷ rs) side line column e =
    elim (or_cases (run_has r side line column) (runs_have rs side line column) e) [
      | inl p ↦ record { run = r; listed = inl refl; on = on_from_has r side line column p }
      | inr p ↦ let h = held_true rs side line column p in record { run = h.run; listed = inr h.listed; on = h.on }
    ]

pub true_held : (runs : List Run) (r : Run) (side : Side) (line column : ℤ) → Has runs r → IsOn r side line column → runs_have runs side line column ≡ true
true_held [] r side line column h p = absurd h
true_held (q ∷ rs) r side line column h p =
    elim h [
      | inl e ↦ or_left (run_has q side line column) (runs_have rs side line column) (has_from_on q side line column (subst (λ s. IsOn s side line column) (sym e) p))
      | inr k ↦ or_right (run_has q side line column) (runs_have rs side line column) (true_held rs r side line column k p)
    ]

-- a unit that no run of the list has
pub held_false : (runs : List Run) (side : Side) (line column : ℤ) → (IsHeld runs side line column → ⊥) → runs_have runs side line column ≡ false
held_false runs side line column f = false_from_ne_true (runs_have runs side line column) (λ e. f (held_true runs side line column e))

-- lists whose units are the same by the runs that have them
pub held_same : (a b : List Run) (side : Side) (line column : ℤ) → (IsHeld a side line column → IsHeld b side line column) → (IsHeld b side line column → IsHeld a side line column) → runs_have a side line column ≡ runs_have b side line column
held_same a b side line column f g =
    both_ways (runs_have a side line column) (runs_have b side line column)
    (λ e. let h = f (held_true a side line column e) in true_held b h.run side line column h.listed h.on)
    (λ e. let h = g (held_true b side line column e) in true_held a h.run side line column h.listed h.on)

held_permuted : (xs ys : List Run) (side : Side) (line column : ℤ) → IsPermutation xs ys → IsHeld xs side line column → IsHeld ys side line column
held_permuted xs ys side line column p h = record { run = h.run; listed = has_permuted xs ys h.run p h.listed; on = h.on }

-- a permutation has the same units
pub units_permuted : (xs ys : List Run) → IsPermutation xs ys → AreSameUnits (units_of ys) (units_of xs)
units_permuted xs ys p x y side =
    held_same ys xs side _ _ (held_permuted ys xs side _ _ (IsPermutation-sym xs ys p)) (held_permuted xs ys side _ _ p)

-- ---- by line and column, and by square and side

line_back : (side : Side) (line column : ℤ) → line_of side (square_x side line column) (square_y side line column) ≡ line
line_back N line column = omega (arith, ints)
line_back S line column = refl
line_back E line column = omega (arith, ints)
line_back W line column = refl

column_back : (side : Side) (line column : ℤ) → column_of side (square_x side line column) (square_y side line column) ≡ column
column_back N line column = refl
column_back S line column = refl
column_back E line column = refl
column_back W line column = refl

pub unit_held : (runs : List Run) (side : Side) (line column : ℤ) → has_unit (units_of runs) side line column ≡ runs_have runs side line column
unit_held runs side line column =
    λ i. runs_have runs side (line_back side line column i) (column_back side line column i)

-- ---- maximal runs, by the runs of the list

-- a run of the list that fills its columns, next to which no run of the list has a unit
pub record IsFree (runs : List Run) (r : Run) : Type 0 where
  pub not_empty : r.lo <ℤ r.hi
  pub listed : Has runs r
  pub before : runs_have runs r.side r.line (r.lo -ℤ pos 1) ≡ false
  pub after : runs_have runs r.side r.line r.hi ≡ false

pub maximal_from_free : (runs : List Run) (r : Run) → IsFree runs r → IsMaximalRun (units_of runs) r
maximal_from_free runs r f =
    record {
      not_empty = f.not_empty;
      inside = λ column p q. unit_held runs r.side r.line column ∙ true_held runs r r.side r.line column f.listed (record { one_side = refl; one_line = refl; begins = p; ends = q });
      before = unit_held runs r.side r.line (r.lo -ℤ pos 1) ∙ f.before;
      after = unit_held runs r.side r.line r.hi ∙ f.after;
    }
