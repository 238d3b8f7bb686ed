-- Runs with gaps between them, sorted by run order, are the form of the set of their units.
use Rattle.std.proofs.Common.{◌≡◌, false, ◌⊎◌, inl, inr, ℤ, pos, ◌<ℤ◌, ◌≤ℤ◌, ◌-ℤ◌, List, [], ◌∷◌, refl, sym, ap, subst, ◌∙◌, arith}
use Rattle.std.proofs.lemmas.Int.{ints}
use Rattle.std.proofs.lemmas.Bool.{false_from_ne_true}
use Rattle.std.proofs.lemmas.List.Sorted.{IsPermutation-sym}
use Rattle.std.specs.Cmp.{Equal-is}
use Rattle.std.specs.List.{AllByRecursion, IsDistinct}
use Rattle.std.specs.List.Sorted.{IsPermutation, IsSorted}
use Rattle.std.specs.Ordering.{eq_by_cmp}
use Rattle.list_facts.proofs.InOrder.{AreDifferent, different_permutation, ordered_from_sorted}
use Rattle.list_facts.proofs.Members.{Has, all_from_has, has_holds, has_permuted}
use Rattle.drc_geom.specs.declared.run.Run.{Run}
use Rattle.drc_geom.specs.Runs.{IsMaximalRun, IsRun, run_order, side_rank, units_of}
use Rattle.drc_geom.specs.RunOrder.{run_order_ties, run_order_total}
use Rattle.drc_geom.proofs.Boundaries.{maximal_same}
use Rattle.drc_geom.proofs.RunUnits.{IsHeld, held_false, maximal_from_free, units_permuted}
use Rattle.edge_form.specs.Edges.{IsEdgeSet}
use Rattle.edge_form.specs.Working.Gathering.{IsSpaced, AreSpaced}
use Rattle.edge_form.proofs.PieceOrder.{lower_here, spaced_trans}

-- ---- any two runs of the list are one, or have a gap between them

spaced_past : (a b c : Run) (runs : List Run) → IsRun b → AreSpaced (a ∷ b ∷ c ∷ runs) → AreSpaced (a ∷ c ∷ runs)
spaced_past a b c runs r s = (spaced_trans a b c r s.0 s.1.0, s.1.1)

all_behind : (a : Run) (runs : List Run) → AllByRecursion IsRun runs → AreSpaced (a ∷ runs) → AllByRecursion (IsSpaced a) runs
all_behind a [] r s = tt
all_behind a (b ∷ []) r s = (s.0, tt)
all_behind a (b ∷ c ∷ runs) r s = (s.0, all_behind a (c ∷ runs) r.1 (spaced_past a b c runs r.0 s))

rest_spaced : (a : Run) (runs : List Run) → AreSpaced (a ∷ runs) → AreSpaced runs
rest_spaced a [] s = tt
rest_spaced a (b ∷ runs) s = s.1

two_spaced : (runs : List Run) (a b : Run) → AllByRecursion IsRun runs → AreSpaced runs → Has runs a → Has runs b → (a ≡ b) ⊎ IsSpaced a b ⊎ IsSpaced b a
two_spaced [] a b r s h k = absurd h
two_spaced (c ∷ runs) a b r s h k =
    let behind = all_behind c runs r.1 s in
    elim h [
      | inl e ↦ elim k [
        | inl f ↦ inl (sym e ∙ f)
        | inr m ↦ inr (inl (subst (λ t. IsSpaced t b) e (has_holds (IsSpaced c) runs b behind m)))
      ]
      | inr n ↦ elim k [
        | inl f ↦ inr (inr (subst (λ t. IsSpaced t a) f (has_holds (IsSpaced c) runs a behind n)))
        | inr m ↦ two_spaced runs a b r.1 (rest_spaced c runs s) n m
      ]
    ]

-- ---- so each run is maximal

-- a gap on one side and line
gap : (a b : Run) → IsSpaced a b → a.side ≡ b.side → a.line ≡ b.line → a.hi <ℤ b.lo
gap a b h s l = lower_here _ _ _ _ _ h (ap side_rank s) l

module _ (runs : List Run) (filled : AllByRecursion IsRun runs) (spaced : AreSpaced runs) (r : Run) (listed : Has runs r) where
  -- no run of the list has the unit before r, or the one behind it
  beside_free : (column : ℤ) → (r.lo -ℤ pos 1) ≤ℤ column → column ≤ℤ r.hi → (r.lo ≤ℤ column → column <ℤ r.hi → ⊥) → IsHeld runs r.side r.line column → ⊥
  beside_free column p q out h =
      let a : h.run.lo ≤ℤ column = h.on.begins in
      let b : column <ℤ h.run.hi = h.on.ends in
      elim (two_spaced runs r h.run filled spaced listed h.listed) [
        | inl e ↦ out (subst (λ t. t.lo ≤ℤ column) (sym e) a) (subst (λ t. column <ℤ t.hi) (sym e) b)
        | inr m ↦ elim m [
          | inl f ↦ let g = gap r h.run f (sym h.on.one_side) (sym h.on.one_line) in omega (arith, ints)
          | inr f ↦ let g = gap h.run r f h.on.one_side h.on.one_line in omega (arith, ints)
        ]
      ]

  spaced_maximal : IsMaximalRun (units_of runs) r
  spaced_maximal =
      let f : r.lo <ℤ r.hi = has_holds IsRun runs r filled listed in
      maximal_from_free runs r (record {
        not_empty = f;
        listed = listed;
        before = held_false runs r.side r.line (r.lo -ℤ pos 1) (beside_free (r.lo -ℤ pos 1) (omega (arith, ints)) (omega (arith, ints)) (λ a b. omega (arith, ints)));
        after = held_false runs r.side r.line r.hi (beside_free r.hi (omega (arith, ints)) (omega (arith, ints)) (λ a b. omega (arith, ints)));
      })

-- ---- and no run stands twice

not_itself : (a : Run) → IsRun a → IsSpaced a a → ⊥
not_itself a f h = let g = gap a a h refl refl in let k : a.lo <ℤ a.hi = f in omega (arith, ints)

spaced_different : (runs : List Run) → AllByRecursion IsRun runs → AreSpaced runs → AreDifferent run_order run_order_total runs
unfolding IsDistinct
spaced_different [] r s = tt
spaced_different (a ∷ runs) r s = (
  all_from_has (λ b. eq_by_cmp run_order a b ≡ false) runs (λ b h.
      false_from_ne_true (eq_by_cmp run_order a b) (λ e.
      let same : a ≡ b = run_order_ties a b ((Equal-is (run_order a b)).0 e) in
      not_itself a r.0 (subst (IsSpaced a) (sym same) (has_holds (IsSpaced a) runs b (all_behind a runs r.1 s) h)))),
  spaced_different runs r.1 (rest_spaced a runs s),
)

pub edge_set_from_spaced : (xs ys : List Run) → AllByRecursion IsRun xs → AreSpaced xs → IsPermutation xs ys → IsSorted run_order ys → IsEdgeSet ys
edge_set_from_spaced xs ys r s p o =
    record {
      ordered = ordered_from_sorted run_order run_order_total ys o (different_permutation run_order run_order_total xs ys p (spaced_different xs r s));
      maximal = all_from_has (IsMaximalRun (units_of ys)) ys (λ run h.
          maximal_same (units_of xs) (units_of ys) run (λ x y side. sym (units_permuted xs ys p x y side)) (spaced_maximal xs r s run (has_permuted ys xs run (IsPermutation-sym xs ys p) h)));
    }
