-- What each worker holds after an event.
use Rattle.std.proofs.Common.{◌≡◌, ℕ, Bool, true, false, cond, List, ◌∷◌, set, Option, None, Some, inl, inr, refl, sym, ◌∙◌, ap, subst}
use Rattle.std.proofs.lemmas.Bool.{cases_Bool, cases_eq, ne_eqb}
use Rattle.std.specs.Prelude.{slice_get}
use Rattle.layer_model.specs.declared.wiring.Wire.{Wire}
use Rattle.ledger_history.specs.declared.event.Event.{Event}
use Rattle.ledger_history.specs.declared.event.Event.TheVariants.{Claim, Stop}
use Rattle.ledger_history.specs.Histories.{Setup, is_claimed, is_finished, last_claim, held, if_unfinished}
use Rattle.ledger_history.specs.Enabled.{Legal}
use Rattle.list_facts.proofs.Tests.{clash}
use Rattle.ledger_history.proofs.Choices.{eqb_itself}
use Rattle.ledger_history.proofs.Orders.{charged_is_claimed, published_is_charged, held_last, last_is_held}
use Rattle.ledger_history.proofs.Releases.{finished_is_published}
use Rattle.ledger_history.proofs.Holders.{one_holder}
use Rattle.ledger_history.proofs.Ends.{idle_from_none, idle_from_finished}
use Rattle.ledger_table.specs.Marks.{wired, run_of}
use Rattle.ledger_table.specs.Tables.{HeldOf}
use Rattle.list_facts.proofs.Slots.{unwritten}
use Rattle.ledger_table.proofs.Slots.{slot_is}

-- an operation that isn't claimed isn't finished
pub unclaimed_unfinished : (s : Setup) (h : List Event) (i : ℕ) → Legal s h → is_claimed h i ≡ false → is_finished s h i ≡ false
unclaimed_unfinished s h i l u =
    elim (cases_Bool (is_finished s h i)) [
      | inl p ↦ clash _ (charged_is_claimed s h i l (published_is_charged s h i l (finished_is_published s h i p))) u
      | inr p ↦ p
    ]

-- one worker's entry is written, and what the others hold is as before
pub held_written : (ws : List Wire) (h : List Event) (e : Event) (w : ℕ) (v : Option ℕ) (kept : List (Option ℕ)) → HeldOf ws h kept
    → v ≡ held (wired ws) (e ∷ h) w → ((u : ℕ) → (u ≡ w → ⊥) → held (wired ws) (e ∷ h) u ≡ held (wired ws) h u) → HeldOf ws (e ∷ h) (set kept w v)
held_written ws h e w v kept p q r = λ u o g.
    elim (cases_eq u w) [
      | inl s ↦ sym (slot_is kept w v o (subst (λ k. slice_get (set kept w v) k ≡ Some o) s g)) ∙ (q ∙ ap (held (wired ws) (e ∷ h)) (sym s))
      | inr s ↦ p u o (sym (unwritten kept w u v s) ∙ g) ∙ sym (r u s)
    ]

pub held_after_claim : (ws : List Wire) (budget workers : ℕ) (h : List Event) (w i : ℕ) (kept : List (Option ℕ)) → Legal (run_of ws budget workers h) h → is_claimed h i ≡ false
    → HeldOf ws h kept → HeldOf ws (Claim w i ∷ h) (set kept w (Some i))
held_after_claim ws budget workers h w i kept l u p =
    held_written ws h (Claim w i) w (Some i) kept p
    (sym (last_is_held (wired ws) (Claim w i ∷ h) w i (ap (λ b. cond b (Some i) (last_claim h w)) (eqb_itself w)) (unclaimed_unfinished (run_of ws budget workers h) h i l u)))
    (λ v n. ap (λ b. if_unfinished (wired ws) h (cond b (Some i) (last_claim h v))) (ne_eqb w v (λ e. n (sym e))))

pub held_after_stop : (ws : List Wire) (h : List Event) (w : ℕ) (kept : List (Option ℕ)) → HeldOf ws h kept → HeldOf ws (Stop w ∷ h) (set kept w None)
held_after_stop ws h w kept p =
    held_written ws h (Stop w) w None kept p
    (sym (idle_from_none (wired ws) (Stop w ∷ h) w (ap (λ b. cond b None (last_claim h w)) (eqb_itself w))))
    (λ v n. ap (λ b. if_unfinished (wired ws) h (cond b None (last_claim h v))) (ne_eqb w v (λ e. n (sym e))))

-- what another worker holds stays, where one operation alone may have ended
pub held_kept : (s : Setup) (h : List Event) (e : Event) (i : ℕ) (o : Option ℕ) → ((m : ℕ) → (m ≡ i → ⊥) → is_finished s (e ∷ h) m ≡ is_finished s h m) → (o ≡ Some i → ⊥)
    → if_unfinished s (e ∷ h) o ≡ if_unfinished s h o
held_kept s h e i None p n = refl
held_kept s h e i (Some m) p n = ap (λ b. cond b None (Some m)) (p m (λ r. n (ap (λ k. Some k) r)))

-- an operation may have ended, whose worker then holds nothing
pub held_after_end : (ws : List Wire) (budget workers : ℕ) (h : List Event) (e : Event) (w i : ℕ) (kept : List (Option ℕ)) → Legal (run_of ws budget workers h) h
    → ((v : ℕ) → last_claim (e ∷ h) v ≡ last_claim h v) → held (wired ws) h w ≡ Some i → ((m : ℕ) → (m ≡ i → ⊥) → is_finished (wired ws) (e ∷ h) m ≡ is_finished (wired ws) h m)
    → HeldOf ws h kept → HeldOf ws (e ∷ h) (cond (is_finished (wired ws) (e ∷ h) i) (set kept w None) kept)
held_after_end ws budget workers h e w i kept l c q r p =
    by_test (is_finished (wired ws) (e ∷ h) i) refl
  where
    last : last_claim h w ≡ Some i
    last = (held_last (wired ws) h w i q).0

    others : (v : ℕ) → (v ≡ w → ⊥) → held (wired ws) (e ∷ h) v ≡ held (wired ws) h v
    others v n =
        ap (if_unfinished (wired ws) (e ∷ h)) (c v)
        ∙ held_kept (wired ws) h e i (last_claim h v) r (λ a. n (one_holder (run_of ws budget workers h) h v w i l a last))

    by_test : (b : Bool) → is_finished (wired ws) (e ∷ h) i ≡ b → HeldOf ws (e ∷ h) (cond b (set kept w None) kept)
    by_test true f = held_written ws h e w None kept p (sym (idle_from_finished (wired ws) (e ∷ h) w i (c w ∙ last) f)) others
    by_test false f = λ v o g. elim (cases_eq v w) [
      | inl s ↦ p v o g ∙ (ap (held (wired ws) h) s ∙ (q ∙ (sym (last_is_held (wired ws) (e ∷ h) w i (c w ∙ last) f) ∙ ap (held (wired ws) (e ∷ h)) (sym s))))
      | inr s ↦ p v o g ∙ sym (others v s)
    ]
