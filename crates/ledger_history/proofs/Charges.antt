-- Charges: the total is the sum of what the operations add to it, and a charge adds its cost.
use Rattle.std.proofs.Common.{◌≡◌, ◌⊎◌, ℕ, ◌+◌, ◌≤◌, Bool, true, false, not, ◌&&◌, ◌||◌, cond, inl, inr, List, [], ◌∷◌, refl, sym, ◌∙◌, ap, arith}
use Rattle.std.proofs.lemmas.Bool.{cases_Bool, ne_eqb}
use Rattle.ledger_history.specs.declared.event.Event.{Event}
use Rattle.ledger_history.specs.declared.event.Event.TheVariants.{Charge}
use Rattle.ledger_history.specs.Histories.{Setup, operations, is_charged, is_let_go, charges_in, total}
use Rattle.ledger_history.specs.Enabled.{Legal, AllFinishedBelow}
use Rattle.ledger_history.specs.Totals.{sum_to, live_cost}
use Rattle.list_facts.proofs.Tests.{clash}
use Rattle.ledger_history.proofs.Choices.{eqb_itself}
use Rattle.ledger_history.proofs.Orders.{held_is_claimed, claimed_is_there, published_is_charged}
use Rattle.ledger_history.proofs.Lives.{let_go_parts}
use Rattle.ledger_history.proofs.Sums.{sum_step, sum_zero}

-- the cost of an operation, if it is charged in h and not let go in all
abbrev pub cost_in : Setup → List Event → List Event → ℕ → ℕ
cost_in s all h i = cond (is_charged h i && not (is_let_go s all i)) (s.cost i) 0

pub charges_by_operations : (s : Setup) (all h : List Event) → Legal s h → charges_in s all h ≡ sum_to (cost_in s all h) (operations s)
charges_by_operations s all [] l = sym (sum_zero (cost_in s all []) (operations s) (λ i _. refl))
charges_by_operations s all (Charge w i c ∷ h) l =
    ap (λ n. cond (is_let_go s all i) 0 c + n) (charges_by_operations s all h l.1)
    ∙ sym (sum_step (cost_in s all h) (cost_in s all (Charge w i c ∷ h)) (operations s) i (cond (is_let_go s all i) 0 c)
    (claimed_is_there s h i l.1 (held_is_claimed s h w i (l.0).holds))
    (λ j n. ap (λ b. cond ((b || is_charged h j) && not (is_let_go s all j)) (s.cost j) 0) (ne_eqb i j (λ e. n (sym e))))
    (ap (λ b. cond ((b || is_charged h i) && not (is_let_go s all i)) (s.cost i) 0) (eqb_itself i)
    ∙ (by_test (is_let_go s all i) (s.cost i) c (l.0).cost
    ∙ sym (ap (λ b. cond (is_let_go s all i) 0 c + cond (b && not (is_let_go s all i)) (s.cost i) 0) (l.0).uncharged))))
  where
    by_test : (b : Bool) (m c : ℕ) → c ≡ m → cond (not b) m 0 ≡ cond b 0 c + 0
    by_test true m c e = refl
    by_test false m c e = omega arith
charges_by_operations s all (e ∷ h) l = charges_by_operations s all h l.1

pub total_by_operations : (s : Setup) (h : List Event) → Legal s h → total s h ≡ sum_to (live_cost s h) (operations s)
total_by_operations s h l = charges_by_operations s h h l

charges_same : (s : Setup) (a b h : List Event) → ((i : ℕ) → is_let_go s a i ≡ is_let_go s b i) → charges_in s a h ≡ charges_in s b h
charges_same s a b [] p = refl
charges_same s a b (Charge w i c ∷ h) p = ap (λ q. cond q 0 c + charges_in s a h) (p i) ∙ ap (λ n. cond (is_let_go s b i) 0 c + n) (charges_same s a b h p)
charges_same s a b (e ∷ h) p = charges_same s a b h p

pub uncharged_stays : (s : Setup) (h : List Event) (i : ℕ) → Legal s h → is_charged h i ≡ false → is_let_go s h i ≡ false
uncharged_stays s h i l u =
    elim (cases_Bool (is_let_go s h i)) [
      | inl q ↦ clash _ (published_is_charged s h i l (let_go_parts s h i q).0) u
      | inr q ↦ q
    ]

-- a charge adds its cost to the total
pub total_after_charge : (s : Setup) (h : List Event) (w i c : ℕ) → Legal s (Charge w i c ∷ h) → total s (Charge w i c ∷ h) ≡ total s h + c
total_after_charge s h w i c l =
    let a : is_let_go s h i ≡ false = uncharged_stays s h i l.1 (l.0).uncharged in
    let b = charges_same s (Charge w i c ∷ h) h h (λ j. refl) in
    let d : cond (is_let_go s h i) 0 c ≡ c = ap (λ q. cond q 0 c) a in
    omega arith

-- no other event than a charge adds to the total
pub total_without_charge : (s : Setup) (h : List Event) (e : Event) → ((i : ℕ) → is_let_go s (e ∷ h) i ≡ is_let_go s h i) → charges_in s (e ∷ h) h ≡ total s h
total_without_charge s h e p = charges_same s (e ∷ h) h h p

-- after a charge the total is within the budget, or all lower operations are finished
pub charge_is_admitted : (s : Setup) (h : List Event) (w i c : ℕ) → Legal s (Charge w i c ∷ h)
    → (total s (Charge w i c ∷ h) ≤ s.budget) ⊎ AllFinishedBelow s (Charge w i c ∷ h) i
charge_is_admitted s h w i c l =
    let a = total_after_charge s h w i c l in
    elim (l.0).fits [
      | inl p ↦ inl (omega arith)
      | inr p ↦ inr p
    ]
