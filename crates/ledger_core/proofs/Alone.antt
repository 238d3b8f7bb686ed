-- A claim while nobody is busy: it never has to wait, and all below what it takes is finished.
use Rattle.std.proofs.Common.{◌≡◌, ℕ, ◌<◌, ◌≤◌, Bool, true, false, List, ◌∷◌, length, get_or, Option, None, Some, inl, inr, sym, ◌∙◌, subst, arith}
use Rattle.std.proofs.lemmas.Bool.{cases_Bool}
use Rattle.std.proofs.lemmas.Option.{slice_get-get_or}
use Rattle.std.specs.Prelude.{slice_get}
use Rattle.layer_model.specs.Wirings.{IsWiring}
use Rattle.ledger_history.specs.declared.event.Event.{Event}
use Rattle.ledger_history.specs.declared.event.Event.TheVariants.{Claim}
use Rattle.ledger_history.specs.Histories.{Setup, operations, is_claimed, is_finished, is_stopped, held, IsComplete}
use Rattle.ledger_history.specs.Enabled.{Legal, IsReady, IsNext, AllFinishedBelow}
use Rattle.list_facts.proofs.Tests.{clash}
use Rattle.ledger_history.proofs.Orders.{held_last, last_is_held}
use Rattle.ledger_history.proofs.Holders.{claimer_is_there}
use Rattle.ledger_history.proofs.Ends.{finished_stays, search_unfinished}
use Rattle.ledger_history.proofs.Goings.{unfinished_is_held, lowest_is_next}
use Rattle.ledger_table.specs.Ledgers.{Ledger, setup_of, charged_cost}
use Rattle.ledger_table.proofs.Costs.{next_at}
use Rattle.ledger_core.specs.declared.condition.Condition.{Condition}
use Rattle.ledger_core.specs.declared.condition.Condition.TheVariants.{Idle}
use Rattle.ledger_core.specs.Tokens.{Stock}
use Rattle.ledger_core.specs.Machines.{Fits}
use Rattle.ledger_core.specs.States.{IsState}
use Rattle.ledger_core.proofs.States.{same_setup}

-- a state in which nobody is busy, and nobody has stopped the run
pub record IsQuiet (s : Setup) (t : Ledger) (readers : List ℕ) (stocks : List Stock) (crew : List Condition) : Type 0 where
  pub state : IsState s t readers stocks crew
  pub idle : (w : ℕ) (c : Condition) → slice_get crew w ≡ Some c → c ≡ Idle
  pub runs : is_stopped t.events ≡ false

nobody_holds : (s : Setup) (t : Ledger) (readers : List ℕ) (stocks : List Stock) (crew : List Condition) (w i : ℕ) → IsQuiet s t readers stocks crew → held s t.events w ≡ Some i → ⊥
nobody_holds s t readers stocks crew w i q e =
    let crewed = q.state.manned in
    let n : length crew ≡ s.workers = crewed.all in
    let b : w < s.workers = claimer_is_there s t.events w i q.state.legal (held_last s t.events w i e).0 in
    let g : slice_get crew w ≡ Some (get_or crew w Idle) = slice_get-get_or crew w Idle (omega arith) in
    let f : Fits s t.events w Idle = subst (λ d. Fits s t.events w d) (q.idle w (get_or crew w Idle) g) (crewed.each w (get_or crew w Idle) g) in
    elim f [
      | inl a ↦ let x : Some i ≡ None = sym e ∙ a in cc
      | inr a ↦ clash _ a q.runs
    ]

-- the lowest unfinished operation is the next one
lowest_is_free : (s : Setup) (t : Ledger) (readers : List ℕ) (stocks : List Stock) (crew : List Condition) (m : ℕ) → IsQuiet s t readers stocks crew
    → m < operations s → AllFinishedBelow s t.events m → is_finished s t.events m ≡ false → IsNext s t.events m
lowest_is_free s t readers stocks crew m q there below f =
    elim (cases_Bool (is_claimed t.events m)) [
      | inl c ↦
          let u = unfinished_is_held s t.events m q.state.legal q.runs c f in
          absurd (nobody_holds s t readers stocks crew u.0 m q (last_is_held s t.events u.0 m u.1 f))
      | inr c ↦ lowest_is_next s t.events m q.state.wiring q.state.legal below there c
    ]

-- nobody has to wait
pub never_waits : (s : Setup) (t : Ledger) (readers : List ℕ) (stocks : List Stock) (crew : List Condition) → IsQuiet s t readers stocks crew
    → (IsComplete (setup_of t) t.events → ⊥) → ((i : ℕ) → IsReady (setup_of t) t.events i → ⊥) → ⊥
never_waits s t readers stocks crew q n r =
    let e = same_setup s t readers stocks crew q.state in
    elim (search_unfinished s t.events (operations s)) [
      | inl (m, there, below, f) ↦
          let a = subst (λ x. IsReady x t.events m) (sym e) (lowest_is_free s t readers stocks crew m q there below f).ready in
          r m (record { there = a.there; unclaimed = a.unclaimed; inputs = a.inputs })
      | inr all ↦ n (subst (λ x. IsComplete x t.events) (sym e) all)
    ]

-- all below what is claimed is finished
pub claims_lowest : (s : Setup) (t : Ledger) (readers : List ℕ) (stocks : List Stock) (crew : List Condition) (w i : ℕ) → IsQuiet s t readers stocks crew
    → IsNext (setup_of t) t.events i → AllFinishedBelow s (Claim w i ∷ t.events) i
claims_lowest s t readers stocks crew w i q n =
    let next : IsNext s t.events i = subst (λ x. IsNext x t.events i) (same_setup s t readers stocks crew q.state) (next_at t (charged_cost t.events) s.cost t.events i n) in
    λ j b. finished_stays s (Claim w i) t.events j (elim (search_unfinished s t.events i) [
      | inl (m, under, below, f) ↦
          let there = next.ready.there in
          let o : i ≤ m = next.lowest m (lowest_is_free s t readers stocks crew m q (omega arith) below f).ready in
          absurd (omega arith)
      | inr all ↦ all j b
    ])
