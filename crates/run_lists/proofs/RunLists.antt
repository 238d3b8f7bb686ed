-- The maximal runs of a bounded set of units can be listed in run order.
use Rattle.std.proofs.Common.{◌≡◌, ℕ, zero, suc, ◌+◌, ◌*◌, ◌≤◌, ◌<◌, Bool, true, false, not, ◌&&◌, inl, inr, ◌⊎◌, ◌↔◌, ℤ, pos, neg_ℤ, ◌+ℤ◌, ◌-ℤ◌, ◌≤ℤ◌, ◌<ℤ◌, int_lt, unsigned_abs, List, [], ◌∷◌, ◌++◌, map, refl, sym, ap, subst, ◌∙◌, arith}
use Rattle.std.proofs.lemmas.Bool.{and_parts, not-true}
use Rattle.std.proofs.lemmas.Int.{ints}
use mathlib.Core.Bool.{true≢false}
use Rattle.list_facts.specs.InOrder.{ListsInOrder}
use Rattle.list_facts.proofs.Members.{Has, has_left, has_right}
use Rattle.list_facts.proofs.Tests.{lt_true, lt_from_true, eq_from_true}
use Rattle.drc_geom.specs.declared.unit.Side.{Side}
use Rattle.drc_geom.specs.declared.unit.Side.TheVariants.{N, E, S, W}
use Rattle.drc_geom.specs.declared.run.Run.{Run}
use Rattle.drc_geom.specs.Units.{Units, has_unit}
use Rattle.drc_geom.specs.Runs.{IsMaximalRun, run_order}
use Rattle.drc_geom.specs.RunOrder.{run_order_total, run_order_ties}
use Rattle.run_lists.proofs.Sorting.{sorted, listed}

-- ---- Finitely many runs

-- n numbers from one on
abbrev numbers_from : ℤ → ℕ → List ℤ
numbers_from lo zero = []
numbers_from lo (suc n) = lo ∷ numbers_from (lo +ℤ pos 1) n

has_number : (lo : ℤ) (n : ℕ) (x : ℤ) → lo ≤ℤ x → x <ℤ (lo +ℤ pos n) → Has (numbers_from lo n) x
has_number lo zero x p q = absurd (let no : ⊥ = omega (arith, ints) in no)
has_number lo (suc n) x p q = elim (first_or_later lo x p) [
  | inl e ↦ inl e
  | inr l ↦ inr (has_number (lo +ℤ pos 1) n x l (omega (arith, ints)))
] where
  first_or_later : (lo x : ℤ) → lo ≤ℤ x → (lo ≡ x) ⊎ ((lo +ℤ pos 1) ≤ℤ x)
  first_or_later lo x p = grind (arith, ints)

-- the results of a function for each item, one after the other
abbrev each_of : {X Y : Type 0} → (X → List Y) → List X → List Y
each_of f [] = []
each_of f (x ∷ xs) = f x ++ each_of f xs

has_each : {X Y : Type 0} (f : X → List Y) (xs : List X) (x : X) (y : Y) → Has xs x → Has (f x) y → Has (each_of f xs) y
has_each f [] x y m h = elim m [ ]
has_each f (z ∷ xs) x y (inl e) h = has_left (f z) (each_of f xs) y (subst (λ w. Has (f w) y) (sym e) h)
has_each f (z ∷ xs) x y (inr m) h = has_right (f z) (each_of f xs) y (has_each f xs x y m h)

abbrev sides : List Side
sides = N ∷ S ∷ E ∷ W ∷ []

has_side : (side : Side) → Has sides side
has_side N = inl refl
has_side S = inr (inl refl)
has_side E = inr (inr (inl refl))
has_side W = inr (inr (inr (inl refl)))

abbrev runs_from : Side → (line lo : ℤ) → ℤ → List Run
runs_from side line lo hi = record { side = side; line = line; lo = lo; hi = hi } ∷ []

-- the runs with all numbers among these
abbrev runs_among : List ℤ → List Run
runs_among ns = each_of (λ side. each_of (λ line. each_of (λ lo. each_of (runs_from side line lo) ns) ns) ns) sides

has_run : (ns : List ℤ) (run : Run) → Has ns run.line → Has ns run.lo → Has ns run.hi → Has (runs_among ns) run
has_run ns run l o h =
    has_each (λ side. each_of (λ line. each_of (λ lo. each_of (runs_from side line lo) ns) ns) ns) sides run.side run (has_side run.side)
    (has_each (λ line. each_of (λ lo. each_of (runs_from run.side line lo) ns) ns) ns run.line run l
    (has_each (λ lo. each_of (runs_from run.side run.line lo) ns) ns run.lo run o
    (has_each (runs_from run.side run.line run.lo) ns run.hi run h (inl refl))))

-- ---- Whether a run is maximal can be told

abbrev has_all : Units → Side → (line lo : ℤ) → ℕ → Bool
has_all units side line lo zero = true
has_all units side line lo (suc n) = has_unit units side line lo && has_all units side line (lo +ℤ pos 1) n

all_from : (units : Units) (side : Side) (line lo : ℤ) (n : ℕ) → has_all units side line lo n ≡ true → (column : ℤ) → lo ≤ℤ column → column <ℤ (lo +ℤ pos n) → has_unit units side line column ≡ true
all_from units side line lo zero e column p q = absurd (let no : ⊥ = omega (arith, ints) in no)
all_from units side line lo (suc n) e column p q = elim (first_or_later lo column p) [
  | inl same ↦ subst (λ c. has_unit units side line c ≡ true) same (and_parts _ _ e).0
  | inr later ↦ all_from units side line (lo +ℤ pos 1) n (and_parts _ _ e).1 column later (omega (arith, ints))
] where
  first_or_later : (lo x : ℤ) → lo ≤ℤ x → (lo ≡ x) ⊎ ((lo +ℤ pos 1) ≤ℤ x)
  first_or_later lo x p = grind (arith, ints)

all_to : (units : Units) (side : Side) (line lo : ℤ) (n : ℕ) → ((column : ℤ) → lo ≤ℤ column → column <ℤ (lo +ℤ pos n) → has_unit units side line column ≡ true) → has_all units side line lo n ≡ true
all_to units side line lo zero k = refl
all_to units side line lo (suc n) k =
    ap (λ b. b && has_all units side line (lo +ℤ pos 1) n) (k lo (omega (arith, ints)) (omega (arith, ints)))
    ∙ all_to units side line (lo +ℤ pos 1) n (λ column p q. k column (omega (arith, ints)) (omega (arith, ints)))

abbrev is_maximal : Units → Run → Bool
is_maximal units run =
    int_lt run.lo run.hi
    && (has_all units run.side run.line run.lo (unsigned_abs (run.hi -ℤ run.lo))
    && (not (has_unit units run.side run.line (run.lo -ℤ pos 1)) && not (has_unit units run.side run.line run.hi)))

length_is : (lo hi : ℤ) → lo <ℤ hi → (lo +ℤ pos (unsigned_abs (hi -ℤ lo))) ≡ hi
length_is lo hi p = omega (arith, ints)

all_true : (a b c d : Bool) → a ≡ true → b ≡ true → c ≡ false → d ≡ false → (a && (b && (not c && not d))) ≡ true
all_true a b c d p q r s = ap (λ x. x && (b && (not c && not d))) p ∙ ap (λ x. x && (not c && not d)) q ∙ ap (λ x. not x && not d) r ∙ ap not s

module _ (units : Units) where
  told : (run : Run) → IsMaximalRun units run → is_maximal units run ≡ true
  told run m = all_true _ _ _ _ (lt_true run.lo run.hi m.not_empty)
      (all_to units run.side run.line run.lo (unsigned_abs (run.hi -ℤ run.lo)) (λ column p q. m.inside column p (subst (λ h. column <ℤ h) (length_is run.lo run.hi m.not_empty) q)))
      m.before m.after

  maximal : (run : Run) → is_maximal units run ≡ true → IsMaximalRun units run
  maximal run e =
      let first = and_parts _ _ e in
      let second = and_parts _ _ first.1 in
      let third = and_parts _ _ second.1 in
      let some = lt_from_true run.lo run.hi first.0 in
      record {
        not_empty = some;
        inside = λ column p q. all_from units run.side run.line run.lo (unsigned_abs (run.hi -ℤ run.lo)) second.0 column p (subst (λ h. column <ℤ h) (sym (length_is run.lo run.hi some)) q);
        before = not-true _ third.0;
        after = not-true _ third.1;
      }

-- the units lie between -b and b
pub record AreWithin (units : Units) (b : ℕ) : Type 0 where
  pub line_from : (side : Side) (line column : ℤ) → has_unit units side line column ≡ true → neg_ℤ (pos b) ≤ℤ line
  pub line_to : (side : Side) (line column : ℤ) → has_unit units side line column ≡ true → line <ℤ pos b
  pub column_from : (side : Side) (line column : ℤ) → has_unit units side line column ≡ true → neg_ℤ (pos b) ≤ℤ column
  pub column_to : (side : Side) (line column : ℤ) → has_unit units side line column ≡ true → column <ℤ pos b

pub runs_listed : (units : Units) (b : ℕ) → AreWithin units b → (runs : List Run) × ListsInOrder run_order (IsMaximalRun units) runs
runs_listed units b within = (_, listed run_order run_order_total run_order_ties (IsMaximalRun units) (is_maximal units) (λ run. (told units run, maximal units run)) (runs_among ns) holds) where
  ns : List ℤ
  ns = numbers_from (neg_ℤ (pos b)) (2 * b + 1)

  number : (x : ℤ) → neg_ℤ (pos b) ≤ℤ x → x ≤ℤ pos b → Has ns x
  number x p q = has_number (neg_ℤ (pos b)) (2 * b + 1) x p (omega (arith, ints))

  holds : (run : Run) → IsMaximalRun units run → Has (runs_among ns) run
  holds run m =
      let some = m.not_empty in
      let first = m.inside run.lo (omega (arith, ints)) some in
      let last = m.inside (run.hi -ℤ pos 1) (omega (arith, ints)) (omega (arith, ints)) in
      let a = within.line_from run.side run.line run.lo first in
      let c = within.line_to run.side run.line run.lo first in
      let d = within.column_from run.side run.line run.lo first in
      let e = within.column_to run.side run.line run.lo first in
      let f = within.column_to run.side run.line (run.hi -ℤ pos 1) last in
      has_run ns run (number run.line a (omega (arith, ints))) (number run.lo d (omega (arith, ints))) (number run.hi (omega (arith, ints)) (omega (arith, ints)))
