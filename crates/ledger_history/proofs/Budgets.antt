-- Budgets: what stands above the lowest unfinished operation stays within the budget, and the total within the budget and
-- the greatest solo cost.
use Rattle.std.proofs.Common.{◌≡◌, ℕ, zero, suc, ◌+◌, ◌-◌, ◌<◌, ◌≤◌, Bool, true, false, not, ◌&&◌, ◌||◌, cond, inl, inr, List, [], ◌∷◌, length, drop, get_or, length-drop, Some, refl, sym, ◌∙◌, ap, subst, arith}
use Rattle.std.proofs.lemmas.Bool.{cases_lt, cases_Bool, cases_eq, or_left, or_right, ne_eqb, eq-eqb, lt-ltb, le-ltb}
use Rattle.std.proofs.lemmas.List.{get_or-drop}
use Rattle.std.proofs.lemmas.List.Sums.{get_or-le-sum_by}
use Rattle.std.proofs.lemmas.Option.{slice_get-get_or}
use lib.Dec.{eqb, ltb}
use Rattle.layer_model.specs.declared.wiring.Wire.{Wire}
use Rattle.layer_model.specs.Wirings.{input, input_from, reads, is_reported, reader_count}
use Rattle.ledger_history.specs.declared.event.Event.{Event}
use Rattle.ledger_history.specs.declared.event.Event.TheVariants.{Claim, Charge, Publish, Release, Stop}
use Rattle.ledger_history.specs.Histories.{Setup, operations, is_charged, is_published, is_released, is_finished, is_back, if_there, is_let_go, total}
use Rattle.ledger_history.specs.Enabled.{Legal, AllFinishedBelow}
use Rattle.ledger_history.specs.Totals.{sum_to, live_cost, live_above, is_kept_for, solo_cost, greatest_solo}
use Rattle.ledger_history.specs.Readers.{HasReader}
use Rattle.list_facts.proofs.Tests.{clash}
use Rattle.ledger_history.proofs.Choices.{eqb_itself}
use Rattle.ledger_history.proofs.Orders.{held_last, held_is_claimed, claimed_is_there}
use Rattle.ledger_history.proofs.Releases.{finished_is_published}
use Rattle.ledger_history.proofs.Returns.{one_at, no_third, no_wire, input_is_there}
use Rattle.ledger_history.proofs.Lives.{let_go_stays, live_has_reader}
use Rattle.ledger_history.proofs.Ends.{EndsOnly, lowest_moves_up, search_unfinished, publish_ends_its_own, release_ends_its_own}
use Rattle.ledger_history.proofs.Charges.{total_by_operations, uncharged_stays}
use Rattle.ledger_history.proofs.Sums.{sum_step, sum_zero, sum_same, sum_le, sum_plus, le_greatest}

zero_if : (b : Bool) → cond {A = ℕ} b 0 0 ≡ 0
zero_if true = refl
zero_if false = refl

live_cost_fits : (s : Setup) (h : List Event) (j : ℕ) → live_cost s h j ≤ s.cost j
live_cost_fits s h j = by_test (is_charged h j && not (is_let_go s h j)) (s.cost j)
  where
    by_test : (b : Bool) (n : ℕ) → cond b n 0 ≤ n
    by_test true n = omega arith
    by_test false n = omega arith

above_fits_total : (s : Setup) (h : List Event) (m : ℕ) → Legal s h → live_above s h m ≤ total s h
above_fits_total s h m l =
    rw (total_by_operations s h l) (sum_le (λ j. cond (ltb m j) (live_cost s h j) 0) (live_cost s h) (operations s) (λ j _. by_test (ltb m j) (live_cost s h j)))
  where
    by_test : (b : Bool) (n : ℕ) → cond b n 0 ≤ n
    by_test true n = omega arith
    by_test false n = omega arith

-- a charge of i adds its cost above each m below i
above_after_charge : (s : Setup) (h : List Event) (w i c m : ℕ) → Legal s (Charge w i c ∷ h) → m < i → live_above s (Charge w i c ∷ h) m ≡ c + live_above s h m
above_after_charge s h w i c m l p =
    sum_step (λ j. cond (ltb m j) (live_cost s h j) 0) (λ j. cond (ltb m j) (live_cost s (Charge w i c ∷ h) j) 0) (operations s) i c
    (claimed_is_there s h i l.1 (held_is_claimed s h w i (l.0).holds))
    (λ j n. ap (λ b. cond (ltb m j) (cond ((b || is_charged h j) && not (is_let_go s h j)) (s.cost j) 0) 0) (ne_eqb i j (λ e. n (sym e))))
    (ap (λ b. cond b (live_cost s (Charge w i c ∷ h) i) 0) (lt-ltb m i p)
    ∙ (ap (λ b. cond ((b || is_charged h i) && not (is_let_go s h i)) (s.cost i) 0) (eqb_itself i)
    ∙ (ap (λ b. cond (not b) (s.cost i) 0) (uncharged_stays s h i l.1 (l.0).uncharged)
    ∙ sym (ap (λ b. c + cond (ltb m i) (cond (b && not (is_let_go s h i)) (s.cost i) 0) 0) (l.0).uncharged ∙ (ap (λ n. c + n) (zero_if (ltb m i)) ∙ add_zero c ∙ (l.0).cost)))))
  where
    add_zero : (n : ℕ) → n + 0 ≡ n
    add_zero n = omega arith

above_same : (s : Setup) (h : List Event) (w i c m : ℕ) → i ≤ m → live_above s (Charge w i c ∷ h) m ≡ live_above s h m
above_same s h w i c m p =
    sum_same (λ j. cond (ltb m j) (live_cost s (Charge w i c ∷ h) j) 0) (λ j. cond (ltb m j) (live_cost s h j) 0) (operations s)
    (λ j _. elim (cases_eq j i) [
      | inl e ↦ ap (λ b. cond b (live_cost s (Charge w i c ∷ h) j) 0) (le-ltb m j (omega arith)) ∙ sym (ap (λ b. cond b (live_cost s h j) 0) (le-ltb m j (omega arith)))
      | inr n ↦ ap (λ b. cond (ltb m j) (cond ((b || is_charged h j) && not (is_let_go s h j)) (s.cost j) 0) 0) (ne_eqb i j (λ e. n (sym e)))
    ])

-- where nothing is charged, and nothing comes back, what stands above a higher operation is no more
above_falls : (s : Setup) (h g : List Event) (k m : ℕ) → k ≤ m → ((j : ℕ) → is_charged g j ≡ is_charged h j) → ((j : ℕ) → is_let_go s h j ≡ true → is_let_go s g j ≡ true) → live_above s g m ≤ live_above s h k
above_falls s h g k m p c q =
    sum_le (λ j. cond (ltb m j) (live_cost s g j) 0) (λ j. cond (ltb k j) (live_cost s h j) 0) (operations s)
    (λ j _. elim (cases_lt m j) [
      | inl a ↦ rw (lt-ltb m j a, lt-ltb k j (omega arith)) (by_tests j)
      | inr a ↦ rw (le-ltb m j a) (omega arith)
    ])
  where
    by_gone : (a x y : Bool) (n : ℕ) → (x ≡ true → y ≡ true) → cond (a && not y) n 0 ≤ cond (a && not x) n 0
    by_gone false x y n r = omega arith
    by_gone true false false n r = omega arith
    by_gone true false true n r = omega arith
    by_gone true true true n r = omega arith
    by_gone true true false n r = clash _ (r refl) refl

    by_tests : (j : ℕ) → live_cost s g j ≤ live_cost s h j
    by_tests j = subst (λ a. cond (a && not (is_let_go s g j)) (s.cost j) 0 ≤ live_cost s h j) (sym (c j)) (by_gone (is_charged h j) (is_let_go s h j) (is_let_go s g j) (s.cost j) (q j))

-- what is live above the lowest unfinished operation stays within the budget
pub above_fits : (s : Setup) (h : List Event) (m : ℕ) → Legal s h → AllFinishedBelow s h m → is_finished s h m ≡ false → live_above s h m ≤ s.budget
above_fits s [] m l below u = rw (sum_zero (λ j. cond (ltb m j) (live_cost s [] j) 0) (operations s) (λ j _. zero_if (ltb m j))) (omega arith)
above_fits s (Claim w i ∷ h) m l below u = above_fits s h m l.1 below u
above_fits s (Stop w ∷ h) m l below u = above_fits s h m l.1 below u
above_fits s (Charge w i c ∷ h) m l below u =
    elim (cases_lt m i) [
      | inl p ↦ elim (l.0).fits [
        | inl q ↦ let a = above_after_charge s h w i c m l p in let b = above_fits_total s h m l.1 in omega arith
        | inr q ↦ clash _ (q m p) u
      ]
      | inr p ↦ rw (above_same s h w i c m p) (above_fits s h m l.1 below u)
    ]
above_fits s (Publish w x ∷ h) m l below u =
    let o : EndsOnly s h (Publish w x) x = record { before = (held_last s h w x (l.0).holds).1; others = publish_ends_its_own s h w x } in
    let r = lowest_moves_up s h (Publish w x) x m o below u in
    let a = above_falls s h (Publish w x ∷ h) r.0 m r.1 (λ j. refl) (λ j. let_go_stays s h (Publish w x) j l) in
    let b = above_fits s h r.0 l.1 r.2 r.3 in
    omega arith
above_fits s (Release w x k ∷ h) m l below u =
    let o : EndsOnly s h (Release w x k) x = record { before = (held_last s h w x (l.0).holds).1; others = release_ends_its_own s h w x k } in
    let r = lowest_moves_up s h (Release w x k) x m o below u in
    let a = above_falls s h (Release w x k ∷ h) r.0 m r.1 (λ j. refl) (λ j. let_go_stays s h (Release w x k) j l) in
    let b = above_fits s h r.0 l.1 r.2 r.3 in
    omega arith

-- an operation with a place that is out isn't finished
pub out_is_unfinished : (s : Setup) (h : List Event) (j : ℕ) (r : HasReader s h j) → is_finished s h r.op ≡ false
out_is_unfinished s h j r = by_place r.place r.reads r.unreleased
  where
    none_after : (a b c : Bool) → b ≡ false → (a && (b && c)) ≡ false
    none_after true true c e = clash _ refl e
    none_after true false c e = refl
    none_after false b c e = refl

    none_last : (a b c : Bool) → c ≡ false → (a && (b && c)) ≡ false
    none_last true true c e = e
    none_last true false c e = refl
    none_last false b c e = refl

    by_place : (k : ℕ) → input s.wires r.op k ≡ Some j → is_released h r.op k ≡ false → is_finished s h r.op ≡ false
    by_place zero e u = none_after (is_published h r.op) _ _ (ap (λ o. if_there o (is_released h r.op 0)) e ∙ u)
    by_place (suc zero) e u = none_last (is_published h r.op) (is_back s h r.op 0) _ (ap (λ o. if_there o (is_released h r.op 1)) e ∙ u)
    by_place (suc (suc k)) e u = absurd (no_third s.wires r.op k j e)

-- a place at or above m that reads j counts among the readers from m on
reader_from : (ws : List Wire) (m i k j : ℕ) → m ≤ i → input ws i k ≡ Some j → 0 < reader_count (drop m ws) j
reader_from ws m i k j p e =
    let there : i < length ws = input_is_there ws i k j e in
    let short : i - m < length (drop m ws) = rw (length-drop m ws) (omega arith) in
    let w : Wire = get_or ws i no_wire in
    let at : get_or (drop m ws) (i - m) no_wire ≡ get_or ws i no_wire = get_or-drop m ws (i - m) no_wire ∙ ap (λ n. get_or ws n no_wire) (omega arith) in
    let one : 1 ≤ reads (get_or ws i no_wire) j = by_place k (sym (ap (λ o. input_from o k) (slice_get-get_or ws i no_wire there)) ∙ e) in
    let a = get_or-le-sum_by (λ (v : Wire). reads v j) (drop m ws) (i - m) no_wire short in
    let b : reads (get_or (drop m ws) (i - m) no_wire) j ≡ reads (get_or ws i no_wire) j = ap (λ v. reads v j) at in
    omega arith
  where
    by_place : (q : ℕ) → input_from (Some (get_or ws i no_wire)) q ≡ Some j → 1 ≤ reads (get_or ws i no_wire) j
    by_place zero f = let x = one_at ((get_or ws i no_wire).first) j f in omega arith
    by_place (suc zero) f = let x = one_at ((get_or ws i no_wire).second) j f in omega arith
    by_place (suc (suc q)) f = absurd cc

-- what is live below an unfinished operation stands for it or for a higher one
live_is_kept : (s : Setup) (h : List Event) (m j : ℕ) → Legal s h → AllFinishedBelow s h m → j < m → is_let_go s h j ≡ false → is_kept_for s m j ≡ true
live_is_kept s h m j l below p q =
    elim (live_has_reader s h j l (finished_is_published s h j (below j p)) q) [
      | inl r ↦ or_left (is_reported s.wires j) _ r
      | inr r ↦
          let u = out_is_unfinished s h j r in
          elim (cases_lt r.op m) [
            | inl x ↦ clash _ (below r.op x) u
            | inr x ↦ or_right (is_reported s.wires j) _ (lt-ltb 0 _ (reader_from s.wires m r.op r.place j x r.reads))
          ]
    ]

-- a sum below a bound, spread over all numbers
spread : (f : ℕ → ℕ) (m n : ℕ) → m ≤ n → sum_to (λ j. cond (ltb j m) (f j) 0) n ≡ sum_to f m
spread f m zero p = let e : 0 ≡ m = omega arith in ap (sum_to f) e
spread f m (suc n) p =
    elim (cases_eq m (suc n)) [
      | inl e ↦ subst (λ k. sum_to (λ j. cond (ltb j k) (f j) 0) (suc n) ≡ sum_to f k) (sym e) (sum_same (λ j. cond (ltb j (suc n)) (f j) 0) f (suc n) (λ j q. ap (λ b. cond b (f j) 0) (lt-ltb j (suc n) q)))
      | inr e ↦
          let a = spread f m n (omega arith) in
          let b : cond (ltb n m) (f n) 0 ≡ 0 = ap (λ x. cond x (f n) 0) (le-ltb n m (omega arith)) in
          omega arith
    ]

single : (c m n : ℕ) → m < n → sum_to (λ j. cond (eqb j m) c 0) n ≡ c
single c m zero p = absurd (omega arith)
single c m (suc n) p =
    elim (cases_eq m n) [
      | inl e ↦
          let a : sum_to (λ j. cond (eqb j m) c 0) n ≡ 0 = sum_zero (λ j. cond (eqb j m) c 0) n (λ j q. ap (λ b. cond b c 0) (ne_eqb j m (λ x. omega arith))) in
          let b : cond (eqb n m) c 0 ≡ c = ap (λ x. cond x c 0) (eq-eqb n m (sym e)) in
          omega arith
      | inr e ↦
          let a = single c m n (omega arith) in
          let b : cond (eqb n m) c 0 ≡ 0 = ap (λ x. cond x c 0) (ne_eqb n m (λ x. e (sym x))) in
          omega arith
    ]

-- the total is at most what is live above m, the cost of m, and what has to stand for m
pub total_by_solo : (s : Setup) (h : List Event) (m : ℕ) → Legal s h → AllFinishedBelow s h m → m < operations s → total s h ≤ live_above s h m + solo_cost s m
total_by_solo s h m l below there =
    let above = λ (j : ℕ). cond (ltb m j) (live_cost s h j) 0 in
    let own = λ (j : ℕ). cond (eqb j m) (s.cost m) 0 in
    let kept = λ (j : ℕ). cond (ltb j m) (cond (is_kept_for s m j) (s.cost j) 0) 0 in
    let a : sum_to (live_cost s h) (operations s) ≤ sum_to (λ j. above j + (own j + kept j)) (operations s) = sum_le (live_cost s h) (λ j. above j + (own j + kept j)) (operations s) (λ j _. by_place j) in
    let b : sum_to (λ j. above j + (own j + kept j)) (operations s) ≡ sum_to above (operations s) + sum_to (λ j. own j + kept j) (operations s) = sum_plus above (λ j. own j + kept j) (operations s) in
    let c : sum_to (λ j. own j + kept j) (operations s) ≡ sum_to own (operations s) + sum_to kept (operations s) = sum_plus own kept (operations s) in
    let d : sum_to own (operations s) ≡ s.cost m = single (s.cost m) m (operations s) there in
    let e : sum_to kept (operations s) ≡ sum_to (λ j. cond (is_kept_for s m j) (s.cost j) 0) m = spread (λ j. cond (is_kept_for s m j) (s.cost j) 0) m (operations s) (omega arith) in
    let f = total_by_operations s h l in
    omega arith
  where
    lower : (j : ℕ) → j < m → live_cost s h j ≤ cond (is_kept_for s m j) (s.cost j) 0
    lower j p =
        elim (cases_Bool (is_let_go s h j)) [
          | inl q ↦ let z : live_cost s h j ≡ 0 = none_left (is_charged h j) (is_let_go s h j) (s.cost j) q in omega arith
          | inr q ↦ rw (live_is_kept s h m j l below p q) (live_cost_fits s h j)
        ]
      where
        none_left : (a b : Bool) (n : ℕ) → b ≡ true → cond (a && not b) n 0 ≡ 0
        none_left true true n e = refl
        none_left true false n e = clash _ e refl
        none_left false b n e = refl

    by_place : (j : ℕ) → live_cost s h j ≤ cond (ltb m j) (live_cost s h j) 0 + (cond (eqb j m) (s.cost m) 0 + cond (ltb j m) (cond (is_kept_for s m j) (s.cost j) 0) 0)
    by_place j =
        elim (cases_lt m j) [
          | inl p ↦ rw (lt-ltb m j p) (omega arith)
          | inr p ↦ elim (cases_eq j m) [
            | inl e ↦ let x = live_cost_fits s h j in let y : s.cost j ≡ s.cost m = ap s.cost e in rw (eq-eqb j m e) (omega arith)
            | inr e ↦ let q : j < m = omega arith in let x = lower j q in rw (lt-ltb j m q) (omega arith)
          ]
        ]

-- the total is within the budget and the greatest solo cost
pub total_fits : (s : Setup) (h : List Event) → Legal s h → total s h ≤ s.budget + greatest_solo s
total_fits s h l =
    elim (search_unfinished s h (operations s)) [
      | inl (m, there, below, u) ↦
          let a = total_by_solo s h m l below there in
          let b = above_fits s h m l below u in
          let c = le_greatest (solo_cost s) (operations s) m there in
          omega arith
      | inr all ↦ elim (cases_lt 0 (operations s)) [
        | inl p ↦
            let m : ℕ = operations s - 1 in
            let there : operations s - 1 < operations s = omega arith in
            let a = total_by_solo s h (operations s - 1) l (λ j q. all j (omega arith)) there in
            let b : live_above s h (operations s - 1) ≡ 0 = sum_zero (λ j. cond (ltb (operations s - 1) j) (live_cost s h j) 0) (operations s) (λ j q. ap (λ x. cond x (live_cost s h j) 0) (le-ltb (operations s - 1) j (omega arith))) in
            let c = le_greatest (solo_cost s) (operations s) (operations s - 1) there in
            omega arith
        | inr p ↦
            let a = total_by_operations s h l in
            let b : sum_to (live_cost s h) (operations s) ≡ 0 = sum_zero (live_cost s h) (operations s) (λ j q. absurd (omega arith)) in
            omega arith
      ]
    ]
