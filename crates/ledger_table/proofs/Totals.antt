-- What a release takes out of the total, and how many events there are room for.
use Rattle.std.proofs.Common.{◌≡◌, ℕ, zero, suc, ◌+◌, ◌*◌, ◌<◌, ◌≤◌, Bool, true, false, not, ◌&&◌, cond, List, ◌∷◌, length, Option, None, Some, inl, inr, refl, sym, ◌∙◌, ap, arith}
use Rattle.std.proofs.lemmas.Bool.{cases_Bool, le-ltb}
use Rattle.layer_model.specs.declared.wiring.Wire.{Wire}
use Rattle.layer_model.specs.Wirings.{input, input_count, one_if_some, IsWiring}
use Rattle.ledger_history.specs.declared.event.Event.{Event}
use Rattle.ledger_history.specs.declared.event.Event.TheVariants.{Release}
use Rattle.ledger_history.specs.Histories.{Setup, operations, is_charged, is_let_go, releases, total}
use Rattle.ledger_history.specs.Enabled.{Legal}
use Rattle.ledger_history.specs.Totals.{sum_to, live_cost, place_total}
use Rattle.ledger_history.specs.Readers.{HasReader, IsReturnOf}
use Rattle.ledger_history.proofs.Orders.{held_is_claimed, claimed_is_there, claimed_has_inputs, published_is_charged}
use Rattle.ledger_history.proofs.Releases.{released_below}
use Rattle.ledger_history.proofs.Lives.{reader_keeps, let_go_by_return, let_go_stays}
use Rattle.ledger_history.proofs.Charges.{total_by_operations}
use Rattle.ledger_history.proofs.Counts.{length_fits, stops_fit}
use Rattle.ledger_history.proofs.Sums.{sum_step}

pub let_go_same : (s : Setup) (h : List Event) (e : Event) (j : ℕ) → IsWiring s.wires → Legal s (e ∷ h) → (IsReturnOf s e j → ⊥) → is_let_go s (e ∷ h) j ≡ is_let_go s h j
let_go_same s h e j v l n =
    elim (cases_Bool (is_let_go s h j)) [
      | inl p ↦ let_go_stays s h e j l p ∙ sym p
      | inr p ↦ elim (cases_Bool (is_let_go s (e ∷ h) j)) [
        | inl q ↦ absurd (n (let_go_by_return s h e j v l (record { before = p; after = q })))
        | inr q ↦ q ∙ sym p
      ]
    ]

-- the place that a release gives back is still out before it
pub release_has_reader : (s : Setup) (h : List Event) (w i k j : ℕ) → Legal s (Release w i k ∷ h) → input s.wires i k ≡ Some j → HasReader s h j
release_has_reader s h w i k j l e =
    let o = (l.0).in_order in
    record { op = i; place = k; reads = e; unreleased = released_below s h i k l.1 ∙ le-ltb k (releases h i) (omega arith) }

-- what a release takes out of the total
pub total_after_release : (s : Setup) (h : List Event) (w i k j : ℕ) → IsWiring s.wires → Legal s (Release w i k ∷ h) → input s.wires i k ≡ Some j
    → total s (Release w i k ∷ h) + cond (is_let_go s (Release w i k ∷ h) j) (s.cost j) 0 ≡ total s h
total_after_release s h w i k j v l e =
    let claimed = held_is_claimed s h w i (l.0).holds in
    let there = claimed_is_there s h i l.1 claimed in
    let lower = v.lower i k j e in
    let charged : is_charged h j ≡ true = published_is_charged s h j l.1 (claimed_has_inputs s h i k j l.1 claimed e) in
    let stands : is_let_go s h j ≡ false = reader_keeps s h j l.1 (release_has_reader s h w i k j l e) in
    let a = total_by_operations s (Release w i k ∷ h) l in
    let b = total_by_operations s h l.1 in
    let g = sum_step (live_cost s (Release w i k ∷ h)) (live_cost s h) (operations s) j (cond (is_let_go s (Release w i k ∷ h) j) (s.cost j) 0) (omega arith)
    (λ m n. ap (λ q. cond (is_charged h m && not q) (s.cost m) 0) (sym (let_go_same s h (Release w i k) m v l (λ r. n (let x : Some j ≡ Some m = sym e ∙ r in cc)))))
    (before charged stands ∙ by_test (is_let_go s (Release w i k ∷ h) j) charged) in
    omega arith
  where
    before : is_charged h j ≡ true → is_let_go s h j ≡ false → live_cost s h j ≡ s.cost j
    before p q = ap (λ b. cond (b && not (is_let_go s h j)) (s.cost j) 0) p ∙ ap (λ b. cond (not b) (s.cost j) 0) q

    by_test : (b : Bool) → is_charged h j ≡ true → s.cost j ≡ cond b (s.cost j) 0 + cond (is_charged h j && not b) (s.cost j) 0
    by_test true p = sym (ap (λ q. s.cost j + cond (q && false) (s.cost j) 0) p ∙ omega arith)
    by_test false p = sym (ap (λ q. 0 + cond (q && true) (s.cost j) 0) p ∙ omega arith)

two_each : (f : ℕ → ℕ) (n : ℕ) → ((i : ℕ) → f i ≤ 2) → sum_to f n ≤ 2 * n
two_each f zero p = omega arith
two_each f (suc n) p = let a = two_each f n p in let b = p n in omega arith

some_at_most : (o : Option ℕ) → one_if_some o ≤ 1
some_at_most None = omega arith
some_at_most (Some j) = omega arith

pub inputs_at_most : (ws : List Wire) (i : ℕ) → input_count ws i ≤ 2
inputs_at_most ws i = let a = some_at_most (input ws i 0) in let b = some_at_most (input ws i 1) in omega arith

-- a legal history has no more than five events for each operation, and a stop for each worker
pub events_fit : (s : Setup) (h : List Event) → Legal s h → length h ≤ 5 * operations s + s.workers
events_fit s h l =
    let a = length_fits s h l in
    let b = stops_fit s h l in
    let c : place_total s ≤ 2 * operations s = two_each (input_count s.wires) (operations s) (inputs_at_most s.wires) in
    omega arith

-- a place that an operation has reads something
pub place_reads : (ws : List Wire) (i k : ℕ) → IsWiring ws → k < input_count ws i → (j : ℕ) × (input ws i k ≡ Some j)
place_reads ws i k v b = by_inputs (input ws i 0) (input ws i 1) refl refl k b
  where
    by_inputs : (f g : Option ℕ) → input ws i 0 ≡ f → input ws i 1 ≡ g → (k : ℕ) → k < one_if_some f + one_if_some g → (j : ℕ) × (input ws i k ≡ Some j)
    by_inputs (Some j) g p q zero b = (j, p)
    by_inputs None None p q k b = absurd (omega arith)
    by_inputs None (Some j) p q k b = absurd (let x : Some j ≡ None = sym q ∙ v.in_order i p in cc)
    by_inputs (Some m) (Some j) p q (suc zero) b = (j, q)
    by_inputs (Some m) None p q (suc k) b = absurd (omega arith)
    by_inputs (Some m) (Some j) p q (suc (suc k)) b = absurd (omega arith)
