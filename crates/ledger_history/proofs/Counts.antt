-- Counts: how many events of each kind a legal history has.
use Rattle.std.proofs.Common.{◌≡◌, ℕ, zero, suc, ◌+◌, ◌*◌, ◌<◌, ◌≤◌, Bool, true, false, ◌||◌, cond, inl, inr, List, [], ◌∷◌, length, Some, refl, sym, ◌∙◌, ap, subst, arith, count_by}
use Rattle.std.proofs.lemmas.Bool.{cases_lt, cases_Bool, cases_eq, ne_eqb, eqb-true, le-leb}
use Rattle.std.proofs.lemmas.List.Sums.{sum_by-cons}
use lib.Dec.{eqb}
use Rattle.layer_model.specs.Wirings.{input_count, is_reported, IsWiring}
use Rattle.ledger_history.specs.declared.event.Event.{Event}
use Rattle.ledger_history.specs.declared.event.Event.TheVariants.{Claim, Charge, Publish, Release, Stop}
use Rattle.ledger_history.specs.Histories.{Setup, operations, is_claimed, is_charged, is_published, is_live, is_stopped, releases, last_claim, IsComplete}
use Rattle.ledger_history.specs.Enabled.{Legal}
use Rattle.ledger_history.specs.Totals.{sum_to, place_total}
use Rattle.ledger_history.specs.Steps.{is_claim, is_charge, is_publish, is_release, is_stop, is_stop_of}
use Rattle.list_facts.proofs.Tests.{clash}
use Rattle.ledger_history.proofs.Choices.{eqb_itself, some_of_none_if}
use Rattle.ledger_history.proofs.Orders.{held_last, held_is_claimed, claimed_is_there, charged_is_claimed, published_is_charged}
use Rattle.ledger_history.proofs.Releases.{releases_fit, finished_is_published, finished_has_releases}
use Rattle.ledger_history.proofs.Holders.{claimer_is_there}
use Rattle.ledger_history.proofs.Returns.{input_is_there}
use Rattle.ledger_history.proofs.Lives.{live_while_read}
use Rattle.ledger_history.proofs.Budgets.{out_is_unfinished}
use Rattle.ledger_history.proofs.Sums.{sum_step, sum_zero, sum_same, sum_le}

count_cons : (p : Event → Bool) (e : Event) (h : List Event) → count_by p (e ∷ h) ≡ cond (p e) 1 0 + count_by p h
count_cons p e h = sum_by-cons (λ x. cond (p x) 1 0) e h

count_no : (p : Event → Bool) (e : Event) (h : List Event) → p e ≡ false → count_by p (e ∷ h) ≡ count_by p h
count_no p e h q = count_cons p e h ∙ (ap (λ b. cond b 1 0 + count_by p h) q ∙ none)
  where
    none : 0 + count_by p h ≡ count_by p h
    none = omega arith

abbrev pub one : Bool → ℕ
one b = cond b 1 0

-- one more operation passes a test
grows : (f g : ℕ → Bool) (n j : ℕ) → j < n → ((i : ℕ) → g i ≡ (eqb j i || f i)) → f j ≡ false → sum_to (λ i. one (g i)) n ≡ 1 + sum_to (λ i. one (f i)) n
grows f g n j p q u =
    sum_step (λ i. one (f i)) (λ i. one (g i)) n j 1 p
    (λ i x. ap one (q i ∙ ap (λ b. b || f i) (ne_eqb j i (λ e. x (sym e)))))
    (ap one (q j ∙ ap (λ b. b || f j) (eqb_itself j)) ∙ sym (ap (λ b. 1 + one b) u))

pub claims_by_operations : (s : Setup) (h : List Event) → Legal s h → count_by is_claim h ≡ sum_to (λ i. one (is_claimed h i)) (operations s)
claims_by_operations s [] l = sym (sum_zero (λ i. one (is_claimed [] i)) (operations s) (λ i _. refl))
claims_by_operations s (Claim w j ∷ h) l =
    count_cons is_claim (Claim w j) h
    ∙ (ap (λ n. 1 + n) (claims_by_operations s h l.1)
    ∙ sym (grows (is_claimed h) (is_claimed (Claim w j ∷ h)) (operations s) j (l.0).next.ready.there (λ i. refl) (l.0).next.ready.unclaimed))
claims_by_operations s (Charge w j c ∷ h) l = count_no is_claim (Charge w j c) h refl ∙ claims_by_operations s h l.1
claims_by_operations s (Publish w j ∷ h) l = count_no is_claim (Publish w j) h refl ∙ claims_by_operations s h l.1
claims_by_operations s (Release w j k ∷ h) l = count_no is_claim (Release w j k) h refl ∙ claims_by_operations s h l.1
claims_by_operations s (Stop w ∷ h) l = count_no is_claim (Stop w) h refl ∙ claims_by_operations s h l.1

pub charges_by_count : (s : Setup) (h : List Event) → Legal s h → count_by is_charge h ≡ sum_to (λ i. one (is_charged h i)) (operations s)
charges_by_count s [] l = sym (sum_zero (λ i. one (is_charged [] i)) (operations s) (λ i _. refl))
charges_by_count s (Charge w j c ∷ h) l =
    count_cons is_charge (Charge w j c) h
    ∙ (ap (λ n. 1 + n) (charges_by_count s h l.1)
    ∙ sym (grows (is_charged h) (is_charged (Charge w j c ∷ h)) (operations s) j (claimed_is_there s h j l.1 (held_is_claimed s h w j (l.0).holds)) (λ i. refl) (l.0).uncharged))
charges_by_count s (Claim w j ∷ h) l = count_no is_charge (Claim w j) h refl ∙ charges_by_count s h l.1
charges_by_count s (Publish w j ∷ h) l = count_no is_charge (Publish w j) h refl ∙ charges_by_count s h l.1
charges_by_count s (Release w j k ∷ h) l = count_no is_charge (Release w j k) h refl ∙ charges_by_count s h l.1
charges_by_count s (Stop w ∷ h) l = count_no is_charge (Stop w) h refl ∙ charges_by_count s h l.1

pub publishes_by_count : (s : Setup) (h : List Event) → Legal s h → count_by is_publish h ≡ sum_to (λ i. one (is_published h i)) (operations s)
publishes_by_count s [] l = sym (sum_zero (λ i. one (is_published [] i)) (operations s) (λ i _. refl))
publishes_by_count s (Publish w j ∷ h) l =
    count_cons is_publish (Publish w j) h
    ∙ (ap (λ n. 1 + n) (publishes_by_count s h l.1)
    ∙ sym (grows (is_published h) (is_published (Publish w j ∷ h)) (operations s) j (claimed_is_there s h j l.1 (held_is_claimed s h w j (l.0).holds)) (λ i. refl) (l.0).unpublished))
publishes_by_count s (Claim w j ∷ h) l = count_no is_publish (Claim w j) h refl ∙ publishes_by_count s h l.1
publishes_by_count s (Charge w j c ∷ h) l = count_no is_publish (Charge w j c) h refl ∙ publishes_by_count s h l.1
publishes_by_count s (Release w j k ∷ h) l = count_no is_publish (Release w j k) h refl ∙ publishes_by_count s h l.1
publishes_by_count s (Stop w ∷ h) l = count_no is_publish (Stop w) h refl ∙ publishes_by_count s h l.1

pub releases_by_count : (s : Setup) (h : List Event) → Legal s h → count_by is_release h ≡ sum_to (releases h) (operations s)
releases_by_count s [] l = sym (sum_zero (releases []) (operations s) (λ i _. refl))
releases_by_count s (Release w j k ∷ h) l =
    count_cons is_release (Release w j k) h
    ∙ (ap (λ n. 1 + n) (releases_by_count s h l.1)
    ∙ sym (sum_step (releases h) (releases (Release w j k ∷ h)) (operations s) j 1 (claimed_is_there s h j l.1 (held_is_claimed s h w j (l.0).holds))
    (λ i x. let z : one (eqb j i) ≡ 0 = ap one (ne_eqb j i (λ e. x (sym e))) in omega arith) (ap (λ b. cond b 1 0 + releases h j) (eqb_itself j))))
releases_by_count s (Claim w j ∷ h) l = count_no is_release (Claim w j) h refl ∙ releases_by_count s h l.1
releases_by_count s (Charge w j c ∷ h) l = count_no is_release (Charge w j c) h refl ∙ releases_by_count s h l.1
releases_by_count s (Publish w j ∷ h) l = count_no is_release (Publish w j) h refl ∙ releases_by_count s h l.1
releases_by_count s (Stop w ∷ h) l = count_no is_release (Stop w) h refl ∙ releases_by_count s h l.1

-- each event is of one kind
pub length_by_kinds : (h : List Event) → length h ≡ count_by is_claim h + count_by is_charge h + count_by is_publish h + count_by is_release h + count_by is_stop h
length_by_kinds [] = refl
length_by_kinds (e ∷ h) =
    let a = length_by_kinds h in
    let b = count_cons is_claim e h in let c = count_cons is_charge e h in let d = count_cons is_publish e h in
    let f = count_cons is_release e h in let g = count_cons is_stop e h in
    let k = by_kind e in
    omega arith
  where
    by_kind : (f : Event) → one (is_claim f) + one (is_charge f) + one (is_publish f) + one (is_release f) + one (is_stop f) ≡ 1
    by_kind (Claim w i) = refl
    by_kind (Charge w i c) = refl
    by_kind (Publish w i) = refl
    by_kind (Release w i k) = refl
    by_kind (Stop w) = refl

at_most : (f : ℕ → Bool) (n : ℕ) → sum_to (λ i. one (f i)) n ≤ n
at_most f zero = omega arith
at_most f (suc n) = let a = at_most f n in let b = small (f n) in omega arith
  where
    small : (b : Bool) → one b ≤ 1
    small true = omega arith
    small false = omega arith

all_of : (f : ℕ → Bool) (n : ℕ) → ((i : ℕ) → i < n → f i ≡ true) → sum_to (λ i. one (f i)) n ≡ n
all_of f zero p = refl
all_of f (suc n) p =
    let a = all_of f n (λ i q. p i (omega arith)) in
    let b : one (f n) ≡ 1 = ap one (p n (omega arith)) in
    omega arith

-- a worker stops once at most
pub stops_once : (s : Setup) (h : List Event) (w : ℕ) → Legal s h → (count_by (is_stop_of w) h ≤ 1) × ((i : ℕ) → last_claim h w ≡ Some i → count_by (is_stop_of w) h ≡ 0)
stops_once s [] w l = (omega arith, λ i q. absurd cc)
stops_once s (Claim v j ∷ h) w l =
    let a = stops_once s h w l.1 in
    let b = count_no (is_stop_of w) (Claim v j) h refl in
    (omega (arith, a.0), λ i q. b ∙ none_yet h (l.0).runs)
  where
    none_yet : (g : List Event) → is_stopped g ≡ false → count_by (is_stop_of w) g ≡ 0
    none_yet [] r = refl
    none_yet (Stop u ∷ g) r = clash _ refl r
    none_yet (Claim u i ∷ g) r = count_no (is_stop_of w) (Claim u i) g refl ∙ none_yet g r
    none_yet (Charge u i c ∷ g) r = count_no (is_stop_of w) (Charge u i c) g refl ∙ none_yet g r
    none_yet (Publish u i ∷ g) r = count_no (is_stop_of w) (Publish u i) g refl ∙ none_yet g r
    none_yet (Release u i k ∷ g) r = count_no (is_stop_of w) (Release u i k) g refl ∙ none_yet g r
stops_once s (Stop v ∷ h) w l = by_worker (stops_once s h w l.1)
  where
    by_worker : (count_by (is_stop_of w) h ≤ 1) × ((i : ℕ) → last_claim h w ≡ Some i → count_by (is_stop_of w) h ≡ 0)
        → (count_by (is_stop_of w) (Stop v ∷ h) ≤ 1) × ((i : ℕ) → last_claim (Stop v ∷ h) w ≡ Some i → count_by (is_stop_of w) (Stop v ∷ h) ≡ 0)
    by_worker (a, b) =
        let c = count_cons (is_stop_of w) (Stop v) h in
        elim (cases_eq v w) [
          | inl e ↦
              let last : last_claim h w ≡ Some (l.0).op = subst (λ k. last_claim h k ≡ Some (l.0).op) e (held_last s h v (l.0).op (l.0).holds).0 in
              let z : count_by (is_stop_of w) h ≡ 0 = b (l.0).op last in
              let t : eqb v w ≡ true = Rattle.std.proofs.lemmas.Bool.eq-eqb v w e in
              let k : one (eqb v w) ≡ 1 = ap one t in
              (omega arith, λ i q. clash _ t (some_of_none_if (eqb v w) i (last_claim h w) q).0)
          | inr e ↦
              let k : one (eqb v w) ≡ 0 = ap one (ne_eqb v w e) in
              (omega arith, λ i q. let y : count_by (is_stop_of w) h ≡ 0 = b i (some_of_none_if (eqb v w) i (last_claim h w) q).1 in omega arith)
        ]
stops_once s (Charge v j c ∷ h) w l = let a = stops_once s h w l.1 in let b = count_no (is_stop_of w) (Charge v j c) h refl in (omega (arith, a.0), λ i q. b ∙ a.1 i q)
stops_once s (Publish v j ∷ h) w l = let a = stops_once s h w l.1 in let b = count_no (is_stop_of w) (Publish v j) h refl in (omega (arith, a.0), λ i q. b ∙ a.1 i q)
stops_once s (Release v j k ∷ h) w l = let a = stops_once s h w l.1 in let b = count_no (is_stop_of w) (Release v j k) h refl in (omega (arith, a.0), λ i q. b ∙ a.1 i q)

pub stops_by_workers : (s : Setup) (h : List Event) → Legal s h → count_by is_stop h ≡ sum_to (λ w. count_by (is_stop_of w) h) s.workers
stops_by_workers s [] l = sym (sum_zero (λ w. count_by (is_stop_of w) []) s.workers (λ w _. refl))
stops_by_workers s (Stop v ∷ h) l =
    count_cons is_stop (Stop v) h
    ∙ (ap (λ n. 1 + n) (stops_by_workers s h l.1)
    ∙ sym (sum_step (λ w. count_by (is_stop_of w) h) (λ w. count_by (is_stop_of w) (Stop v ∷ h)) s.workers v 1
    (claimer_is_there s h v (l.0).op l.1 (held_last s h v (l.0).op (l.0).holds).0)
    (λ w x. count_no (is_stop_of w) (Stop v) h (ne_eqb v w (λ e. x (sym e))))
    (count_cons (is_stop_of v) (Stop v) h ∙ ap (λ b. one b + count_by (is_stop_of v) h) (eqb_itself v))))
stops_by_workers s (Claim v j ∷ h) l = count_no is_stop (Claim v j) h refl ∙ (stops_by_workers s h l.1 ∙ sum_same (λ w. count_by (is_stop_of w) h) (λ w. count_by (is_stop_of w) (Claim v j ∷ h)) s.workers (λ w _. sym (count_no (is_stop_of w) (Claim v j) h refl)))
stops_by_workers s (Charge v j c ∷ h) l = count_no is_stop (Charge v j c) h refl ∙ (stops_by_workers s h l.1 ∙ sum_same (λ w. count_by (is_stop_of w) h) (λ w. count_by (is_stop_of w) (Charge v j c ∷ h)) s.workers (λ w _. sym (count_no (is_stop_of w) (Charge v j c) h refl)))
stops_by_workers s (Publish v j ∷ h) l = count_no is_stop (Publish v j) h refl ∙ (stops_by_workers s h l.1 ∙ sum_same (λ w. count_by (is_stop_of w) h) (λ w. count_by (is_stop_of w) (Publish v j ∷ h)) s.workers (λ w _. sym (count_no (is_stop_of w) (Publish v j) h refl)))
stops_by_workers s (Release v j k ∷ h) l = count_no is_stop (Release v j k) h refl ∙ (stops_by_workers s h l.1 ∙ sum_same (λ w. count_by (is_stop_of w) h) (λ w. count_by (is_stop_of w) (Release v j k ∷ h)) s.workers (λ w _. sym (count_no (is_stop_of w) (Release v j k) h refl)))

-- no more events than each operation's own, and a stop for each worker
pub length_fits : (s : Setup) (h : List Event) → Legal s h → length h ≤ 3 * operations s + place_total s + count_by is_stop h
length_fits s h l =
    let a = length_by_kinds h in
    let b = claims_by_operations s h l in let b' = at_most (is_claimed h) (operations s) in
    let c = charges_by_count s h l in let c' = at_most (is_charged h) (operations s) in
    let d = publishes_by_count s h l in let d' = at_most (is_published h) (operations s) in
    let e = releases_by_count s h l in let e' = sum_le (releases h) (input_count s.wires) (operations s) (λ i _. releases_fit s h i l) in
    omega arith

pub stops_fit : (s : Setup) (h : List Event) → Legal s h → count_by is_stop h ≤ s.workers
stops_fit s h l = rw (stops_by_workers s h l) (bounded s.workers)
  where
    bounded : (n : ℕ) → sum_to (λ w. count_by (is_stop_of w) h) n ≤ n
    bounded zero = omega arith
    bounded (suc n) = let a = bounded n in let b = (stops_once s h n l).0 in omega arith

-- a complete history has each event once
pub complete_claims : (s : Setup) (h : List Event) → Legal s h → IsComplete s h → count_by is_claim h ≡ operations s
complete_claims s h l c = claims_by_operations s h l ∙ all_of (is_claimed h) (operations s) (λ i p. charged_is_claimed s h i l (published_is_charged s h i l (finished_is_published s h i (c i p))))

pub complete_charges : (s : Setup) (h : List Event) → Legal s h → IsComplete s h → count_by is_charge h ≡ operations s
complete_charges s h l c = charges_by_count s h l ∙ all_of (is_charged h) (operations s) (λ i p. published_is_charged s h i l (finished_is_published s h i (c i p)))

pub complete_publishes : (s : Setup) (h : List Event) → Legal s h → IsComplete s h → count_by is_publish h ≡ operations s
complete_publishes s h l c = publishes_by_count s h l ∙ all_of (is_published h) (operations s) (λ i p. finished_is_published s h i (c i p))

pub complete_releases : (s : Setup) (h : List Event) → IsWiring s.wires → Legal s h → IsComplete s h → count_by is_release h ≡ place_total s
complete_releases s h v l c = releases_by_count s h l ∙ sum_same (releases h) (input_count s.wires) (operations s) (λ i p. finished_has_releases s h i v l (c i p))

-- and exactly the reported layers are live
pub complete_lives : (s : Setup) (h : List Event) (j : ℕ) → Legal s h → IsComplete s h → j < operations s → is_live s h j ≡ is_reported s.wires j
complete_lives s h j l c p =
    let law = live_while_read s h j l (finished_is_published s h j (c j p)) in
    elim (cases_Bool (is_reported s.wires j)) [
      | inl r ↦ law.1 (inl r) ∙ sym r
      | inr r ↦ elim (cases_Bool (is_live s h j)) [
        | inr q ↦ q ∙ sym r
        | inl q ↦ elim (law.0 q) [
          | inl x ↦ clash _ x r
          | inr x ↦ clash _ (c x.op (input_is_there s.wires x.op x.place j x.reads)) (out_is_unfinished s h j x)
        ]
      ]
    ]
