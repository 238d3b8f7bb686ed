-- Maximal runs sorted by run order, each taken once, are the form of the set of their units.
use Rattle.std.proofs.Common.{◌≡◌, ◌⊎◌, inl, inr, ℕ, suc, ◌+◌, Bool, true, false, cond, List, [], ◌∷◌, get_or, refl, sym, ap, subst, ◌∙◌, arith}
use Rattle.std.proofs.lemmas.List.Sorted.{IsPermutation-sym}
use Rattle.std.specs.Cmp.{Equal-is}
use Rattle.std.specs.List.{AllByRecursion, dedup, dedup_from}
use Rattle.std.specs.List.Sorted.{IsPermutation, IsSorted, IsStrictlySortedBy}
use Rattle.std.specs.Ordering.{is_eq, is_lt, ordering_reverse}
use Rattle.std.specs.declared.cmp.Ordering.{Ordering}
use Rattle.std.specs.declared.cmp.Ordering.TheVariants.{Less, Equal, Greater}
use mathlib.Core.Bool.{true≢false}
use Rattle.list_facts.proofs.Members.{Has, all_from_has, all_weaker, has_holds, has_permuted}
use Rattle.list_facts.proofs.Tests.{by_test, clash}
use Rattle.drc_geom.specs.declared.run.Run.{Run}
use Rattle.drc_geom.specs.declared.unit.Side.{Side}
use Rattle.drc_geom.specs.Units.{AreSameUnits, column_of, line_of}
use Rattle.drc_geom.specs.Runs.{IsMaximalRun, run_order, runs_have, units_of}
use Rattle.drc_geom.specs.RunOrder.{run_order_ties, run_order_total}
use Rattle.drc_geom.proofs.Boundaries.{maximal_same}
use Rattle.drc_geom.proofs.RunUnits.{IsHeld, held_same}
use Rattle.edge_form.specs.Edges.{IsEdgeSet}

-- each stands before the next, or is the same run
abbrev AreRising : List Run → Type 0
AreRising [] = Unit {0}
AreRising (a ∷ []) = Unit {0}
AreRising (a ∷ b ∷ runs) = ((run_order a b ≡ Less) ⊎ (a ≡ b)) × AreRising (b ∷ runs)

-- each stands before the next
abbrev AreStrict : List Run → Type 0
AreStrict [] = Unit {0}
AreStrict (a ∷ []) = Unit {0}
AreStrict (a ∷ b ∷ runs) = (run_order a b ≡ Less) × AreStrict (b ∷ runs)

not_above : (a b : Run) (o : Ordering) → run_order a b ≡ o → is_lt (ordering_reverse o) ≡ false → (run_order a b ≡ Less) ⊎ (a ≡ b)
not_above a b Less e h = inl e
not_above a b Equal e h = inr (run_order_ties a b e)
not_above a b Greater e h = absurd (true≢false h)

rest_sorted : (a : Run) (runs : List Run) → IsSorted run_order (a ∷ runs) → IsSorted run_order runs
rest_sorted a runs h k d l m =
    let e : suc k + 1 ≡ suc (k + 1) = omega arith in
    subst (λ n. is_lt (run_order (get_or (a ∷ runs) n d) (get_or runs k d)) ≡ false) e (h (suc k) d (omega arith) (omega arith))

rising : (runs : List Run) → IsSorted run_order runs → AreRising runs
rising [] h = tt
rising (a ∷ []) h = tt
rising (a ∷ b ∷ runs) h = (
  not_above a b (run_order a b) refl (ap is_lt (sym (run_order_total.antisymm b a)) ∙ h 0 a (omega arith) (omega arith)),
  rising (b ∷ runs) (rest_sorted a (b ∷ runs) h),
)

abbrev BeginsWith : Run → List Run → Type 0
BeginsWith a [] = ⊥
BeginsWith a (b ∷ runs) = b ≡ a

strict_more : (a b : Run) (runs : List Run) → run_order a b ≡ Less → BeginsWith b runs → AreStrict runs → AreStrict (a ∷ runs)
strict_more a b [] l s h = absurd s
strict_more a b (c ∷ runs) l s h = (ap (run_order a) s ∙ l, h)

module _ (same : Run → Run → Bool) (tells : (a b : Run) → same a b ≡ true → a ≡ b) (itself : (a : Run) → same a a ≡ true) where
  -- what is known of the list from a run on
  record IsStrictFrom (a : Run) (runs : List Run) : Type 0 where
    begins : BeginsWith a runs
    strict : AreStrict runs

  strict_from : (a : Run) (runs : List Run) → AreRising (a ∷ runs) → IsStrictFrom a (dedup_from same a runs)
  strict_from a [] r = record { begins = refl; strict = tt }
  strict_from a (b ∷ runs) r =
      by_test (same b a)
      (λ t.
      subst (IsStrictFrom a) (sym (ap (λ c. cond c (dedup_from same a runs) (a ∷ dedup_from same b runs)) t))
      (strict_from a runs (subst (λ c. AreRising (c ∷ runs)) (tells b a t) r.1)))
      (λ t.
      let rest = strict_from b runs r.1 in
      subst (IsStrictFrom a) (sym (ap (λ c. cond c (dedup_from same a runs) (a ∷ dedup_from same b runs)) t))
      (record {
        begins = refl;
        strict = strict_more a b (dedup_from same b runs) (elim r.0 [ inl l ↦ l | inr e ↦ clash (same b a) (subst (λ c. same b c ≡ true) (sym e) (itself b)) t ]) rest.begins rest.strict;
      }))

  strict_deduped : (runs : List Run) → AreRising runs → AreStrict (dedup same runs)
  strict_deduped [] r = tt
  strict_deduped (a ∷ runs) r = (strict_from a runs r).strict

  -- ---- the same members

  kept : (c : Bool) (a b x : Run) (runs ys zs : List Run) → (c ≡ true → b ≡ a) → (Has (a ∷ runs) x → Has ys x) → (Has (b ∷ runs) x → Has zs x) → Has (a ∷ b ∷ runs) x → Has (cond c ys (a ∷ zs)) x
  kept true a b x runs ys zs e f g h =
      elim h [
        | inl k ↦ f (inl k)
        | inr k ↦ elim k [ inl m ↦ f (inl (sym (e refl) ∙ m)) | inr m ↦ f (inr m) ]
      ]
  kept false a b x runs ys zs e f g h = elim h [ inl k ↦ inl k | inr k ↦ inr (g k) ]

  kept_from : (a : Run) (runs : List Run) (x : Run) → Has (a ∷ runs) x → Has (dedup_from same a runs) x
  kept_from a [] x h = h
  kept_from a (b ∷ runs) x h =
      kept (same b a) a b x runs (dedup_from same a runs) (dedup_from same b runs) (λ t. tells b a t) (kept_from a runs x) (kept_from b runs x) h

  kept_deduped : (runs : List Run) (x : Run) → Has runs x → Has (dedup same runs) x
  kept_deduped [] x h = h
  kept_deduped (a ∷ runs) x h = kept_from a runs x h

  was : (c : Bool) (a b x : Run) (runs ys zs : List Run) → (Has ys x → Has (a ∷ runs) x) → (Has zs x → Has (b ∷ runs) x) → Has (cond c ys (a ∷ zs)) x → Has (a ∷ b ∷ runs) x
  was true a b x runs ys zs f g h = elim (f h) [ inl k ↦ inl k | inr k ↦ inr (inr k) ]
  was false a b x runs ys zs f g h = elim h [ inl k ↦ inl k | inr k ↦ inr (g k) ]

  was_from : (a : Run) (runs : List Run) (x : Run) → Has (dedup_from same a runs) x → Has (a ∷ runs) x
  was_from a [] x h = h
  was_from a (b ∷ runs) x h = was (same b a) a b x runs (dedup_from same a runs) (dedup_from same b runs) (was_from a runs x) (was_from b runs x) h

  was_deduped : (runs : List Run) (x : Run) → Has (dedup same runs) x → Has runs x
  was_deduped [] x h = h
  was_deduped (a ∷ runs) x h = was_from a runs x h

  -- ---- the form

  all_less : (a b : Run) (runs : List Run) → run_order a b ≡ Less → AreStrict (b ∷ runs) → AllByRecursion (λ c. run_order a c ≡ Less) runs
  all_less a b [] l s = tt
  all_less a b (c ∷ runs) l s = let m = run_order_total.trans a b c l s.0 in (m, all_less a c runs m s.1)

  ordered : (runs : List Run) → AreStrict runs → IsStrictlySortedBy run_order runs
  unfolding IsStrictlySortedBy
  ordered [] s = tt
  ordered (a ∷ []) s = (tt, tt)
  ordered (a ∷ b ∷ runs) s = ((s.0, all_less a b runs s.0 s.1), ordered (b ∷ runs) s.1)

  units_of_same : (xs ys : List Run) → ((x : Run) → Has xs x → Has ys x) → ((x : Run) → Has ys x → Has xs x) → AreSameUnits (units_of ys) (units_of xs)
  units_of_same xs ys f g x y side =
      held_same ys xs side (line_of side x y) (column_of side x y)
      (λ h. record { run = h.run; listed = g h.run h.listed; on = h.on })
      (λ h. record { run = h.run; listed = f h.run h.listed; on = h.on })

  module _ (old sorted new : List Run) (p : IsPermutation old sorted) (s : IsSorted run_order sorted) (is : new ≡ dedup same sorted) where
    into : (x : Run) → Has old x → Has new x
    into x h = subst (λ rs. Has rs x) (sym is) (kept_deduped sorted x (has_permuted old sorted x p h))

    from : (x : Run) → Has new x → Has old x
    from x h = has_permuted sorted old x (IsPermutation-sym old sorted p) (was_deduped sorted x (subst (λ rs. Has rs x) is h))

    pub deduped_units : AreSameUnits (units_of new) (units_of old)
    deduped_units = units_of_same old new into from

    pub deduped_form : AllByRecursion (IsMaximalRun (units_of old)) old → IsEdgeSet new
    deduped_form m =
        record {
          ordered = ordered new (subst AreStrict (sym is) (strict_deduped sorted (rising sorted s)));
          maximal = all_from_has (IsMaximalRun (units_of new)) new (λ r h.
              maximal_same (units_of old) (units_of new) r (λ x y side. sym (deduped_units x y side)) (has_holds (IsMaximalRun (units_of old)) old r m (from r h)));
        }
