-- Holders: an operation is held by one worker at most, and by one unless the run is stopped.
use Rattle.std.proofs.Common.{◌≡◌, ℕ, ◌<◌, inl, inr, List, [], ◌∷◌, Some, sym, ◌∙◌, ap, subst}
use Rattle.std.proofs.lemmas.Bool.{eqb-true}
use lib.Dec.{eqb}
use Rattle.ledger_history.specs.declared.event.Event.{Event}
use Rattle.ledger_history.specs.declared.event.Event.TheVariants.{Claim, Stop}
use Rattle.ledger_history.specs.Histories.{Setup, is_claimed, last_claim}
use Rattle.ledger_history.specs.Enabled.{Legal}
use Rattle.list_facts.proofs.Tests.{clash}
use Rattle.ledger_history.proofs.Choices.{some_of_if, some_of_none_if}
use Rattle.ledger_history.proofs.Orders.{last_is_claimed}

-- no two workers' last claims are of one operation
pub one_holder : (s : Setup) (h : List Event) (v w i : ℕ) → Legal s h → last_claim h v ≡ Some i → last_claim h w ≡ Some i → v ≡ w
one_holder s [] v w i l p q = absurd cc
one_holder s (Claim u j ∷ h) v w i l p q =
    elim (some_of_if (eqb u v) j i (last_claim h v) p) [
      | inl a ↦ elim (some_of_if (eqb u w) j i (last_claim h w) q) [
        | inl b ↦ sym (eqb-true u v a.0) ∙ eqb-true u w b.0
        | inr b ↦ clash _ (last_is_claimed h w i b.1) (ap (is_claimed h) (sym a.1) ∙ (l.0).next.ready.unclaimed)
      ]
      | inr a ↦ elim (some_of_if (eqb u w) j i (last_claim h w) q) [
        | inl b ↦ clash _ (last_is_claimed h v i a.1) (ap (is_claimed h) (sym b.1) ∙ (l.0).next.ready.unclaimed)
        | inr b ↦ one_holder s h v w i l.1 a.1 b.1
      ]
    ]
one_holder s (Stop u ∷ h) v w i l p q =
    one_holder s h v w i l.1 (some_of_none_if (eqb u v) i (last_claim h v) p).1 (some_of_none_if (eqb u w) i (last_claim h w) q).1
one_holder s (e ∷ h) v w i l p q = one_holder s h v w i l.1 p q

-- only a worker of the run has a last claim
pub claimer_is_there : (s : Setup) (h : List Event) (w i : ℕ) → Legal s h → last_claim h w ≡ Some i → w < s.workers
claimer_is_there s [] w i l p = absurd cc
claimer_is_there s (Claim u j ∷ h) w i l p =
    elim (some_of_if (eqb u w) j i (last_claim h w) p) [
      | inl a ↦ subst (λ k. k < s.workers) (eqb-true u w a.0) (l.0).worker
      | inr a ↦ claimer_is_there s h w i l.1 a.1
    ]
claimer_is_there s (Stop u ∷ h) w i l p = claimer_is_there s h w i l.1 (some_of_none_if (eqb u w) i (last_claim h w) p).1
claimer_is_there s (e ∷ h) w i l p = claimer_is_there s h w i l.1 p
