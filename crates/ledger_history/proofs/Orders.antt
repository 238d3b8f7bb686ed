-- In which order events of one operation stand in a legal history.
use Rattle.std.proofs.Common.{◌≡◌, ℕ, ◌<◌, Bool, true, false, cond, inl, inr, List, [], ◌∷◌, Option, None, Some, refl, ◌∙◌, ap, subst}
use Rattle.std.proofs.lemmas.Bool.{or_cases, or_left, or_right, eqb-true}
use lib.Dec.{eqb}
use Rattle.layer_model.specs.Wirings.{input}
use Rattle.ledger_history.specs.declared.event.Event.{Event}
use Rattle.ledger_history.specs.declared.event.Event.TheVariants.{Claim, Charge, Publish, Stop}
use Rattle.ledger_history.specs.Histories.{Setup, operations, is_claimed, is_charged, is_published, is_finished, last_claim, held, if_unfinished}
use Rattle.ledger_history.specs.Enabled.{Legal}
use Rattle.list_facts.proofs.Tests.{clash}
use Rattle.ledger_history.proofs.Choices.{eqb_itself, some_of_if, some_of_none_if}

-- what is claimed, charged or published stays so
pub claimed_stays : (e : Event) (h : List Event) (i : ℕ) → is_claimed h i ≡ true → is_claimed (e ∷ h) i ≡ true
claimed_stays (Claim w j) h i q = or_right (eqb j i) _ q
claimed_stays e h i q = q

pub charged_stays : (e : Event) (h : List Event) (i : ℕ) → is_charged h i ≡ true → is_charged (e ∷ h) i ≡ true
charged_stays (Charge w j c) h i q = or_right (eqb j i) _ q
charged_stays e h i q = q

pub published_stays : (e : Event) (h : List Event) (i : ℕ) → is_published h i ≡ true → is_published (e ∷ h) i ≡ true
published_stays (Publish w j) h i q = or_right (eqb j i) _ q
published_stays e h i q = q

-- a worker's last claim is a claim
pub last_is_claimed : (h : List Event) (w i : ℕ) → last_claim h w ≡ Some i → is_claimed h i ≡ true
last_is_claimed [] w i q = absurd cc
last_is_claimed (Claim v j ∷ h) w i q =
    elim (some_of_if (eqb v w) j i (last_claim h w) q) [
      | inl p ↦ or_left (eqb j i) _ (subst (λ k. eqb j k ≡ true) p.1 (eqb_itself j))
      | inr p ↦ or_right (eqb j i) _ (last_is_claimed h w i p.1)
    ]
last_is_claimed (Stop v ∷ h) w i q = last_is_claimed h w i (some_of_none_if (eqb v w) i (last_claim h w) q).1
last_is_claimed (e ∷ h) w i q = last_is_claimed h w i q

-- what a worker holds is its last claim, and isn't finished
pub unfinished_some : (s : Setup) (h : List Event) (o : Option ℕ) (i : ℕ) → if_unfinished s h o ≡ Some i → (o ≡ Some i) × (is_finished s h i ≡ false)
unfinished_some s h None i q = absurd cc
unfinished_some s h (Some j) i q = by_test (is_finished s h j) refl q
  where
    by_test : (b : Bool) → is_finished s h j ≡ b → cond b None (Some j) ≡ Some i → (Some j ≡ Some i) × (is_finished s h i ≡ false)
    by_test true f r = absurd cc
    by_test false f r = let e : j ≡ i = cc in (r, subst (λ k. is_finished s h k ≡ false) e f)

pub held_last : (s : Setup) (h : List Event) (w i : ℕ) → held s h w ≡ Some i → (last_claim h w ≡ Some i) × (is_finished s h i ≡ false)
held_last s h w i q = unfinished_some s h (last_claim h w) i q

pub held_is_claimed : (s : Setup) (h : List Event) (w i : ℕ) → held s h w ≡ Some i → is_claimed h i ≡ true
held_is_claimed s h w i q = last_is_claimed h w i (held_last s h w i q).0

pub last_is_held : (s : Setup) (h : List Event) (w i : ℕ) → last_claim h w ≡ Some i → is_finished s h i ≡ false → held s h w ≡ Some i
last_is_held s h w i p q = ap (if_unfinished s h) p ∙ ap (λ b. cond b None (Some i)) q

-- charged after claimed, published after charged
pub charged_is_claimed : (s : Setup) (h : List Event) (i : ℕ) → Legal s h → is_charged h i ≡ true → is_claimed h i ≡ true
charged_is_claimed s [] i l q = clash _ q refl
charged_is_claimed s (Claim w j ∷ h) i l q = or_right (eqb j i) _ (charged_is_claimed s h i l.1 q)
charged_is_claimed s (Charge w j c ∷ h) i l q =
    elim (or_cases (eqb j i) (is_charged h i) q) [
      | inl p ↦ subst (λ k. is_claimed h k ≡ true) (eqb-true j i p) (held_is_claimed s h w j (l.0).holds)
      | inr p ↦ charged_is_claimed s h i l.1 p
    ]
charged_is_claimed s (e ∷ h) i l q = charged_is_claimed s h i l.1 q

pub published_is_charged : (s : Setup) (h : List Event) (i : ℕ) → Legal s h → is_published h i ≡ true → is_charged h i ≡ true
published_is_charged s [] i l q = clash _ q refl
published_is_charged s (Charge w j c ∷ h) i l q = or_right (eqb j i) _ (published_is_charged s h i l.1 q)
published_is_charged s (Publish w j ∷ h) i l q =
    elim (or_cases (eqb j i) (is_published h i) q) [
      | inl p ↦ subst (λ k. is_charged h k ≡ true) (eqb-true j i p) (l.0).charged
      | inr p ↦ published_is_charged s h i l.1 p
    ]
published_is_charged s (e ∷ h) i l q = published_is_charged s h i l.1 q

-- there are no claims of other operations
pub claimed_is_there : (s : Setup) (h : List Event) (i : ℕ) → Legal s h → is_claimed h i ≡ true → i < operations s
claimed_is_there s [] i l q = clash _ q refl
claimed_is_there s (Claim w j ∷ h) i l q =
    elim (or_cases (eqb j i) (is_claimed h i) q) [
      | inl p ↦ subst (λ k. k < operations s) (eqb-true j i p) (l.0).next.ready.there
      | inr p ↦ claimed_is_there s h i l.1 p
    ]
claimed_is_there s (e ∷ h) i l q = claimed_is_there s h i l.1 q

-- the inputs of what is claimed are published
pub claimed_has_inputs : (s : Setup) (h : List Event) (i k j : ℕ) → Legal s h → is_claimed h i ≡ true → input s.wires i k ≡ Some j → is_published h j ≡ true
claimed_has_inputs s [] i k j l q e = clash _ q refl
claimed_has_inputs s (Claim w m ∷ h) i k j l q e =
    elim (or_cases (eqb m i) (is_claimed h i) q) [
      | inl p ↦ (l.0).next.ready.inputs k j (ap (λ n. input s.wires n k) (eqb-true m i p) ∙ e)
      | inr p ↦ claimed_has_inputs s h i k j l.1 p e
    ]
claimed_has_inputs s (Publish w m ∷ h) i k j l q e = or_right (eqb m j) _ (claimed_has_inputs s h i k j l.1 q e)
claimed_has_inputs s (f ∷ h) i k j l q e = claimed_has_inputs s h i k j l.1 q e
