-- A history is legal at all costs that its charges have.
use Rattle.std.proofs.Common.{◌≡◌, ℕ, false, ◌||◌, cond, List, [], ◌∷◌, inl, inr, sym, ◌∙◌, ap}
use Rattle.std.proofs.lemmas.Bool.{cases_Bool, cases_eq, ne_eqb, or_left, or_right}
use lib.Dec.{eqb}
use Rattle.layer_model.specs.declared.wiring.Wire.{Wire}
use Rattle.ledger_history.specs.declared.event.Event.{Event}
use Rattle.ledger_history.specs.declared.event.Event.TheVariants.{Claim, Charge, Publish, Release, Stop}
use Rattle.ledger_history.specs.Histories.{Setup, is_charged}
use Rattle.ledger_history.specs.Enabled.{Enabled, Legal, IsReady, IsNext}
use Rattle.list_facts.proofs.Tests.{clash}
use Rattle.ledger_history.proofs.Choices.{eqb_itself}
use Rattle.ledger_table.specs.Ledgers.{Ledger, setup_with, charged_cost, IsAllowed}
use Rattle.ledger_table.specs.Working.Costs.{HasCost, HaveCosts}
use Rattle.ledger_table.specs.Marks.{run_of}

pub ready_at : (t : Ledger) (f g : ℕ → ℕ) (h : List Event) (i : ℕ) → IsReady (setup_with f t) h i → IsReady (setup_with g t) h i
ready_at t f g h i r = record { there = r.there; unclaimed = r.unclaimed; inputs = r.inputs }

pub next_at : (t : Ledger) (f g : ℕ → ℕ) (h : List Event) (i : ℕ) → IsNext (setup_with f t) h i → IsNext (setup_with g t) h i
next_at t f g h i n = record { ready = ready_at t f g h i n.ready; lowest = λ j r. n.lowest j (ready_at t g f h j r) }

pub enabled_at : (t : Ledger) (f g : ℕ → ℕ) (h : List Event) (e : Event) → Enabled (setup_with f t) h e → HasCost g e → Enabled (setup_with g t) h e
enabled_at t f g h (Claim w i) p c = record { runs = p.runs; worker = p.worker; idle = p.idle; next = next_at t f g h i p.next }
enabled_at t f g h (Charge w i d) p c = record { runs = p.runs; holds = p.holds; uncharged = p.uncharged; cost = c; fits = p.fits }
enabled_at t f g h (Publish w i) p c = record { holds = p.holds; charged = p.charged; unpublished = p.unpublished }
enabled_at t f g h (Release w i k) p c = record { holds = p.holds; published = p.published; in_order = p.in_order; place = p.place }
enabled_at t f g h (Stop w) p c = record { op = p.op; holds = p.holds; uncharged = p.uncharged }

pub legal_at : (t : Ledger) (f g : ℕ → ℕ) (h : List Event) → Legal (setup_with f t) h → HaveCosts g h → Legal (setup_with g t) h
legal_at t f g [] l c = tt
legal_at t f g (e ∷ h) l c = (enabled_at t f g h e l.0 c.0, legal_at t f g h l.1 c.1)

pub legal_costs : (s : Setup) (h : List Event) → Legal s h → HaveCosts s.cost h
legal_costs s [] l = tt
legal_costs s (Charge w i c ∷ h) l = ((l.0).cost, legal_costs s h l.1)
legal_costs s (e ∷ h) l = (tt, legal_costs s h l.1)

pub enabled_cost : (s : Setup) (h : List Event) (e : Event) → Enabled s h e → HasCost s.cost e
enabled_cost s h (Charge w i c) p = p.cost
enabled_cost s h e p = tt

-- the cost of an operation without a charge may be anything
costs_but : (f : ℕ → ℕ) (h : List Event) (i c : ℕ) → HaveCosts f h → is_charged h i ≡ false → HaveCosts (λ j. cond (eqb i j) c (f j)) h
costs_but f [] i c p u = tt
costs_but f (Charge w j d ∷ h) i c p u =
    elim (cases_eq i j) [
      | inl e ↦ clash _ (or_left (eqb j i) (is_charged h i) (ap (eqb j) e ∙ eqb_itself j)) u
      | inr e ↦ (p.0 ∙ sym (ap (λ b. cond b c (f j)) (ne_eqb i j e)), costs_but f h i c p.1 (uncharged_before u))
    ]
  where
    uncharged_before : (eqb j i || is_charged h i) ≡ false → is_charged h i ≡ false
    uncharged_before u =
        elim (cases_Bool (is_charged h i)) [
          | inl q ↦ clash _ (or_right (eqb j i) (is_charged h i) q) u
          | inr q ↦ q
        ]
costs_but f (e ∷ h) i c p u = (tt, costs_but f h i c p.1 u)

own_cost : (h : List Event) (e : Event) → HasCost (charged_cost (e ∷ h)) e
own_cost h (Charge w i c) = sym (ap (λ b. cond b c (charged_cost h i)) (eqb_itself i))
own_cost h e = tt

own_costs : (s : Setup) (h : List Event) (e : Event) → HaveCosts (charged_cost h) h → Enabled s h e → HaveCosts (charged_cost (e ∷ h)) h
own_costs s h (Charge w i c) p q = costs_but (charged_cost h) h i c p q.uncharged
own_costs s h e p q = p

-- a legal history with one more event that was allowed
pub legal_grows : (ws : List Wire) (budget workers : ℕ) (h : List Event) (e : Event) → Legal (run_of ws budget workers h) h
    → IsAllowed (record { wires = ws; budget = budget; workers = workers; events = h }) e → Legal (run_of ws budget workers (e ∷ h)) (e ∷ h)
legal_grows ws budget workers h e l a =
    let t : Ledger = record { wires = ws; budget = budget; workers = workers; events = h } in
    let c = own_costs (setup_with a.cost t) h e (legal_costs (run_of ws budget workers h) h l) a.enabled in
    (enabled_at t a.cost (charged_cost (e ∷ h)) h e a.enabled (own_cost h e), legal_at t (charged_cost h) (charged_cost (e ∷ h)) h l c)
