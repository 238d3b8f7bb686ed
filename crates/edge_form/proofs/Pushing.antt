-- A run that no run of a set meets or touches makes it a set with one run more.
use Rattle.std.proofs.Common.{◌≡◌, inl, inr, ℤ, pos, ◌<ℤ◌, ◌≤ℤ◌, ◌-ℤ◌, List, [], ◌∷◌, ◌++◌, refl, sym, subst, ◌∙◌, arith}
use Rattle.std.proofs.lemmas.Int.{ints}
use Rattle.std.specs.List.{AllByRecursion}
use Rattle.std.specs.declared.cmp.Ordering.TheVariants.{Less}
use mathlib.Core.Bool.{true≢false}
use Rattle.drc_geom.specs.declared.run.Run.{Run}
use Rattle.drc_geom.specs.Runs.{IsMaximalRun, IsRun, run_order, units_of}
use Rattle.drc_geom.specs.RunOrder.{run_order_total}
use Rattle.drc_geom.proofs.RunUnits.{IsOn, IsHeld, true_held, held_false, unit_held, IsFree, maximal_from_free}
use Rattle.list_facts.proofs.InOrder.{ordered_push}
use Rattle.list_facts.proofs.Members.{Has, all_from_has, has_holds, has_left, has_pushed, has_right}
use Rattle.edge_form.specs.Edges.{IsEdgeSet, IsClearOf}

module _ (runs : List Run) (r : Run) (form : IsEdgeSet runs) (filled : IsRun r) (clear : IsClearOf runs r) where
  -- no unit from the one before the run to the one behind it is held
  not_held : (column : ℤ) → (r.lo -ℤ pos 1) ≤ℤ column → column ≤ℤ r.hi → IsHeld runs r.side r.line column → ⊥
  not_held column p q h =
      true≢false (sym (true_held runs h.run r.side r.line column h.listed h.on) ∙ (sym (unit_held runs r.side r.line column) ∙ clear column p q))

  -- an old run has no unit of the new one, nor one next to it
  apart : (q : Run) (column : ℤ) → Has runs q → q.lo <ℤ q.hi → q.side ≡ r.side → q.line ≡ r.line → q.lo ≤ℤ column → column <ℤ q.hi → (r.lo -ℤ pos 1) ≤ℤ column → column ≤ℤ r.hi → ⊥
  apart q column h f s l a b c d =
      not_held column c d (record { run = q; listed = h; on = record { one_side = s; one_line = l; begins = a; ends = b } })

  old_before : (q : Run) → Has runs q → IsMaximalRun (units_of runs) q → IsHeld (runs ++ r ∷ []) q.side q.line (q.lo -ℤ pos 1) → ⊥
  old_before q h m k =
      let f : q.lo <ℤ q.hi = m.not_empty in
      elim (has_pushed runs r k.run k.listed) [
        | inl old ↦ true≢false (sym (true_held runs k.run q.side q.line (q.lo -ℤ pos 1) old k.on) ∙ (sym (unit_held runs q.side q.line (q.lo -ℤ pos 1)) ∙ m.before))
        | inr e ↦ let on : IsOn r q.side q.line (q.lo -ℤ pos 1) = subst (λ t. IsOn t q.side q.line (q.lo -ℤ pos 1)) (sym e) k.on in
            let u : r.lo ≤ℤ (q.lo -ℤ pos 1) = on.begins in
            let v : (q.lo -ℤ pos 1) <ℤ r.hi = on.ends in
            apart q q.lo h f (sym on.one_side) (sym on.one_line) (omega (arith, ints)) f (omega (arith, ints)) (omega (arith, ints))
      ]

  old_after : (q : Run) → Has runs q → IsMaximalRun (units_of runs) q → IsHeld (runs ++ r ∷ []) q.side q.line q.hi → ⊥
  old_after q h m k =
      let f : q.lo <ℤ q.hi = m.not_empty in
      elim (has_pushed runs r k.run k.listed) [
        | inl old ↦ true≢false (sym (true_held runs k.run q.side q.line q.hi old k.on) ∙ (sym (unit_held runs q.side q.line q.hi) ∙ m.after))
        | inr e ↦ let on : IsOn r q.side q.line q.hi = subst (λ t. IsOn t q.side q.line q.hi) (sym e) k.on in
            let u : r.lo ≤ℤ q.hi = on.begins in
            let v : q.hi <ℤ r.hi = on.ends in
            apart q (q.hi -ℤ pos 1) h f (sym on.one_side) (sym on.one_line) (omega (arith, ints)) (omega (arith, ints)) (omega (arith, ints)) (omega (arith, ints))
      ]

  new_beside : (column : ℤ) → (r.lo -ℤ pos 1) ≤ℤ column → column ≤ℤ r.hi → ((r.lo ≤ℤ column) → column <ℤ r.hi → ⊥) → IsHeld (runs ++ r ∷ []) r.side r.line column → ⊥
  new_beside column p q out k =
      elim (has_pushed runs r k.run k.listed) [
        | inl old ↦ not_held column p q (record { run = k.run; listed = old; on = k.on })
        | inr e ↦ let on : IsOn r r.side r.line column = subst (λ t. IsOn t r.side r.line column) (sym e) k.on in
            out on.begins on.ends
      ]

  old_free : (q : Run) → Has runs q → IsFree (runs ++ r ∷ []) q
  old_free q h =
      let m = has_holds (IsMaximalRun (units_of runs)) runs q form.maximal h in
      record {
        not_empty = m.not_empty;
        listed = has_left runs (r ∷ []) q h;
        before = held_false (runs ++ r ∷ []) q.side q.line (q.lo -ℤ pos 1) (old_before q h m);
        after = held_false (runs ++ r ∷ []) q.side q.line q.hi (old_after q h m);
      }

  new_free : IsFree (runs ++ r ∷ []) r
  new_free =
      let f : r.lo <ℤ r.hi = filled in
      record {
        not_empty = filled;
        listed = has_right runs (r ∷ []) r (inl refl);
        before = held_false (runs ++ r ∷ []) r.side r.line (r.lo -ℤ pos 1) (new_beside (r.lo -ℤ pos 1) (omega (arith, ints)) (omega (arith, ints)) (λ a b. omega (arith, ints)));
        after = held_false (runs ++ r ∷ []) r.side r.line r.hi (new_beside r.hi (omega (arith, ints)) (omega (arith, ints)) (λ a b. omega (arith, ints)));
      }

  pub pushed : AllByRecursion (λ other. run_order other r ≡ Less) runs → IsEdgeSet (runs ++ r ∷ [])
  pushed last =
      record {
        ordered = ordered_push run_order run_order_total runs r form.ordered last;
        maximal = all_from_has (IsMaximalRun (units_of (runs ++ r ∷ []))) (runs ++ r ∷ []) (λ q h.
            elim (has_pushed runs r q h) [
              | inl old ↦ maximal_from_free (runs ++ r ∷ []) q (old_free q old)
              | inr e ↦ subst (IsMaximalRun (units_of (runs ++ r ∷ []))) e (maximal_from_free (runs ++ r ∷ []) r new_free)
            ]);
      }
