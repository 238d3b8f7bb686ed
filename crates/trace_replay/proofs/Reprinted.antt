-- What is printed of a legal and complete history is the trace of a run that was allowed and went to its end.
use Rattle.std.proofs.Common.{◌≡◌, ℕ, ◌<◌, ◌≤◌, true, ◌||◌, cond, List, [], ◌∷◌, length, slice_index, None, inl, inr, sym, ap, ◌∙◌, arith}
use Rattle.std.proofs.lemmas.Bool.{cases_eq, ne_eqb, or_left, or_right}
use lib.Dec.{eqb}
use Rattle.layer_model.specs.declared.wiring.Wire.{Wire}
use Rattle.ledger_history.specs.declared.event.Event.{Event}
use Rattle.ledger_history.specs.declared.event.Event.TheVariants.{Charge}
use Rattle.ledger_history.specs.Histories.{Setup, is_charged}
use Rattle.ledger_history.specs.Enabled.{Legal}
use Rattle.ledger_history.proofs.Choices.{eqb_itself}
use Rattle.ledger_history.proofs.Orders.{charged_is_claimed, claimed_is_there}
use Rattle.ledger_record.specs.declared.history.History.{History}
use Rattle.ledger_record.specs.Records.{past, setup_of, IsLegalFor, IsCompleteFor}
use Rattle.ledger_table.specs.Ledgers.{Ledger}
use Rattle.ledger_table.specs.Working.Costs.{HaveCosts}
use Rattle.ledger_table.proofs.Costs.{legal_at}
use Rattle.trace_text.specs.Printed.{charged_cost, AreCharges, told_of}
use Rattle.trace_replay.specs.Replays.{asking, Meets}

-- the cost of a charge in a legal history is the operation's cost
charged_of : (s : Setup) (h : List Event) (i : ℕ) → Legal s h → is_charged h i ≡ true → charged_cost h i ≡ s.cost i
charged_of s [] i l p = absurd cc
charged_of s (Charge w j c ∷ h) i l p =
    elim (cases_eq j i) [
      | inl e ↦ ap (λ b. cond b c (charged_cost h i)) (ap (eqb j) (sym e) ∙ eqb_itself j) ∙ (l.0).cost ∙ ap s.cost e
      | inr e ↦ ap (λ b. cond b c (charged_cost h i)) (ne_eqb j i e) ∙ charged_of s h i l.1 (sym (ap (λ b. b || is_charged h i) (ne_eqb j i e)) ∙ p)
    ]
charged_of s (e ∷ h) i l p = charged_of s h i l.1 p

-- costs that are those of the charges are the costs of each charge
have_costs : (s : Setup) (g : ℕ → ℕ) (all h : List Event) → ((i : ℕ) → is_charged all i ≡ true → g i ≡ s.cost i) → ((i : ℕ) → is_charged h i ≡ true → is_charged all i ≡ true) → Legal s h → HaveCosts g h
have_costs s g all [] f k l = tt
have_costs s g all (Charge w j c ∷ h) f k l =
    let here : is_charged all j ≡ true = k j (or_left (eqb j j) (is_charged h j) (eqb_itself j)) in
    ((l.0).cost ∙ sym (f j here), have_costs s g all h f (λ i p. k i (or_right (eqb j i) (is_charged h i) p)) l.1)
have_costs s g all (e ∷ h) f k l = (tt, have_costs s g all h f (λ i p. k i p) l.1)

-- the costs of the charges are those of their operations
own_charges : (ws : List Wire) (cost : ℕ → ℕ) (h : History) (costs : List ℕ) → IsLegalFor ws cost h → AreCharges h costs → (i : ℕ) → is_charged (past h) i ≡ true → slice_index costs i ≡ cost i
own_charges ws cost h costs l a i p =
    let s : Setup = setup_of ws cost h in
    let there : i < length ws = claimed_is_there s (past h) i l.legal (charged_is_claimed s (past h) i l.legal p) in
    a.each i (omega (arith, there, l.same)) ∙ charged_of s (past h) i l.legal p

pub reprints : (ws : List Wire) (cost : ℕ → ℕ) (h : History) (costs : List ℕ) → IsLegalFor ws cost h → IsCompleteFor ws h → 1 ≤ h.workers → h.workers ≤ 64 → AreCharges h costs → Meets (asking ws None None) (told_of h costs)
reprints ws cost h costs l k some few a =
    let t : Ledger = record { wires = ws; budget = h.budget; workers = h.workers; events = [] } in
    let g : ℕ → ℕ = λ i. slice_index costs i in
    record {
      header = record { operations = l.same; some = some; few = few; workers = λ d. d; budget = λ d. d };
      legal = legal_at t cost g (past h) l.legal (have_costs (setup_of ws cost h) g (past h) (past h) (own_charges ws cost h costs l a) (λ i p. p) l.legal);
      complete = k;
    }
