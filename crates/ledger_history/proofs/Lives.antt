-- Lives: a published layer is live while it is reported or a place that reads it is out, and no longer.
use Rattle.std.proofs.Common.{◌≡◌, ◌⊎◌, ◌↔◌, ℕ, ◌+◌, ◌<◌, true, false, not, ◌&&◌, ◌||◌, inl, inr, List, ◌∷◌, Some, refl, sym, ◌∙◌, ap, subst, arith}
use Rattle.std.proofs.lemmas.Bool.{cases_lt, cases_Bool, eqb-true, eq-eqb, and_parts, ltb-true, le-ltb, not-true}
use lib.Dec.{eqb, ltb}
use Rattle.layer_model.specs.Wirings.{input, reader_count, one_if_at, is_reported, IsWiring}
use Rattle.ledger_history.specs.declared.event.Event.{Event}
use Rattle.ledger_history.specs.declared.event.Event.TheVariants.{Claim, Charge, Publish, Release, Stop}
use Rattle.ledger_history.specs.Histories.{Setup, operations, is_claimed, is_published, is_released, is_let_go, is_live, releases, returns}
use Rattle.ledger_history.specs.Enabled.{Legal}
use Rattle.ledger_history.specs.Totals.{sum_to}
use Rattle.ledger_history.specs.Readers.{HasReader, IsReturnOf, LetsGo}
use Rattle.list_facts.proofs.Tests.{clash}
use Rattle.ledger_history.proofs.Orders.{held_is_claimed, claimed_is_there, claimed_has_inputs, charged_is_claimed, published_is_charged, published_stays}
use Rattle.ledger_history.proofs.Releases.{released_below, released_is_published}
use Rattle.ledger_history.proofs.Returns.{returns_fit, reader_lacks, lacks_reader, at_one, reads_at, readers_by_places}
use Rattle.ledger_history.proofs.Sums.{smaller_term, sum_zero}

-- what lets go of a layer
pub let_go_parts : (s : Setup) (h : List Event) (j : ℕ) → is_let_go s h j ≡ true
    → (is_published h j ≡ true) × (is_reported s.wires j ≡ false) × (returns s h j ≡ reader_count s.wires j)
let_go_parts s h j q =
    let a = and_parts (is_published h j) _ q in
    let b = and_parts (not (is_reported s.wires j)) _ (a.1) in
    (a.0, not-true (is_reported s.wires j) b.0, eqb-true (returns s h j) (reader_count s.wires j) b.1)

pub let_go_from : (s : Setup) (h : List Event) (j : ℕ) → is_published h j ≡ true → is_reported s.wires j ≡ false → returns s h j ≡ reader_count s.wires j → is_let_go s h j ≡ true
let_go_from s h j p q r =
    ap (λ b. b && (not (is_reported s.wires j) && eqb (returns s h j) (reader_count s.wires j))) p
    ∙ (ap (λ b. not b && eqb (returns s h j) (reader_count s.wires j)) q ∙ eq-eqb (returns s h j) (reader_count s.wires j) r)

-- a layer with a reader isn't let go
pub reader_keeps : (s : Setup) (h : List Event) (j : ℕ) → Legal s h → HasReader s h j → is_let_go s h j ≡ false
reader_keeps s h j l r =
    elim (cases_Bool (is_let_go s h j)) [
      | inl q ↦ let a = let_go_parts s h j q in let b = reader_lacks s h j l r in absurd (omega (arith, a.2))
      | inr q ↦ q
    ]

pub live_from : (s : Setup) (h : List Event) (j : ℕ) → is_published h j ≡ true → is_let_go s h j ≡ false → is_live s h j ≡ true
live_from s h j p q = ap (λ b. b && not (is_let_go s h j)) p ∙ ap not q

pub live_parts : (s : Setup) (h : List Event) (j : ℕ) → is_live s h j ≡ true → (is_published h j ≡ true) × (is_let_go s h j ≡ false)
live_parts s h j q =
    let a = and_parts (is_published h j) _ q in
    (a.0, not-true (is_let_go s h j) a.1)

-- a published layer that isn't reported and has no reader is let go
pub live_has_reader : (s : Setup) (h : List Event) (j : ℕ) → Legal s h → is_published h j ≡ true → is_let_go s h j ≡ false → (is_reported s.wires j ≡ true) ⊎ HasReader s h j
live_has_reader s h j l p q =
    elim (cases_Bool (is_reported s.wires j)) [
      | inl r ↦ inl r
      | inr r ↦ elim (cases_lt (returns s h j) (reader_count s.wires j)) [
        | inl a ↦ inr (lacks_reader s h j l a)
        | inr a ↦ let b = returns_fit s h j l in clash _ (let_go_from s h j p r (omega arith)) q
      ]
    ]

pub reported_stays : (s : Setup) (h : List Event) (j : ℕ) → is_reported s.wires j ≡ true → is_let_go s h j ≡ false
reported_stays s h j r =
    elim (cases_Bool (is_let_go s h j)) [
      | inl q ↦ clash _ r (let_go_parts s h j q).1
      | inr q ↦ q
    ]

-- the law of readers
pub live_while_read : (s : Setup) (h : List Event) (j : ℕ) → Legal s h → is_published h j ≡ true
    → (is_live s h j ≡ true) ↔ ((is_reported s.wires j ≡ true) ⊎ HasReader s h j)
live_while_read s h j l p = (
  λ q. live_has_reader s h j l p (live_parts s h j q).1,
  λ q. live_from s h j p (elim q [ inl r ↦ reported_stays s h j r | inr r ↦ reader_keeps s h j l r ]),
)

-- each input of a claimed operation is live until the release of its place
pub input_is_live : (s : Setup) (h : List Event) (i k j : ℕ) → Legal s h → is_claimed h i ≡ true → input s.wires i k ≡ Some j → is_released h i k ≡ false → is_live s h j ≡ true
input_is_live s h i k j l c e u =
    live_from s h j (claimed_has_inputs s h i k j l c e) (reader_keeps s h j l (record { op = i; place = k; reads = e; unreleased = u }))

-- a place that is released is one of a claimed operation
pub released_is_claimed : (s : Setup) (h : List Event) (i k : ℕ) → Legal s h → is_released h i k ≡ true → is_claimed h i ≡ true
released_is_claimed s h i k l q =
    let a : ltb k (releases h i) ≡ true = sym (released_below s h i k l) ∙ q in
    charged_is_claimed s h i l (published_is_charged s h i l (released_is_published s h i l (omega (arith, ltb-true k (releases h i) a))))

-- a layer that is read and not yet published has a reader
pub unpublished_has_reader : (s : Setup) (h : List Event) (j : ℕ) → Legal s h → is_published h j ≡ false → 0 < reader_count s.wires j → HasReader s h j
unpublished_has_reader s h j l u q =
    let zeros : sum_to (λ _. 0) (operations s) ≡ 0 = sum_zero (λ _. 0) (operations s) (λ i _. refl) in
    let r = smaller_term (λ _. 0) (reads_at s j) (operations s) (rw (zeros, ← readers_by_places s j) q) in
    by_place r.0 (elim (cases_lt 0 (one_if_at (input s.wires r.0 0) j)) [
      | inl x ↦ (0, at_one (input s.wires r.0 0) j x)
      | inr x ↦ (1, at_one (input s.wires r.0 1) j (omega (arith, r.2)))
    ])
  where
    by_place : (i : ℕ) → (k : ℕ) × (input s.wires i k ≡ Some j) → HasReader s h j
    by_place i (k, e) =
        elim (cases_Bool (is_released h i k)) [
          | inl x ↦ clash _ (claimed_has_inputs s h i k j l (released_is_claimed s h i k l x) e) u
          | inr x ↦ record { op = i; place = k; reads = e; unreleased = x }
        ]

-- a layer is let go at a return of it, and at no other event
pub let_go_by_return : (s : Setup) (h : List Event) (e : Event) (j : ℕ) → IsWiring s.wires → Legal s (e ∷ h) → LetsGo s h e j → IsReturnOf s e j
let_go_by_return s h (Claim w i) j v l g = clash _ g.after g.before
let_go_by_return s h (Charge w i c) j v l g = clash _ g.after g.before
let_go_by_return s h (Stop w) j v l g = clash _ g.after g.before
let_go_by_return s h (Publish w i) j v l g =
    elim (cases_Bool (eqb i j)) [
      | inl e ↦
          let a = let_go_parts s (Publish w i ∷ h) j g.after in
          let same : i ≡ j = eqb-true i j e in
          let unpublished : is_published h j ≡ false = subst (λ k. is_published h k ≡ false) same (l.0).unpublished in
          let there : j < operations s = subst (λ k. k < operations s) same (claimed_is_there s h i l.1 (held_is_claimed s h w i (l.0).holds)) in
          elim (v.used j there) [
            | inl r ↦ clash _ r a.1
            | inr r ↦ let b = reader_lacks s h j l.1 (unpublished_has_reader s h j l.1 unpublished r) in absurd (omega (arith, a.2))
          ]
      | inr e ↦ clash _ (sym (ap (λ b. (b || is_published h j) && (not (is_reported s.wires j) && eqb (returns s h j) (reader_count s.wires j))) e) ∙ g.after) g.before
    ]
let_go_by_return s h (Release w i k) j v l g =
    elim (cases_lt 0 (one_if_at (input s.wires i k) j)) [
      | inl p ↦ at_one (input s.wires i k) j p
      | inr p ↦
          let e : one_if_at (input s.wires i k) j + returns s h j ≡ returns s h j = omega arith in
          clash _ (sym (ap (λ n. is_published h j && (not (is_reported s.wires j) && eqb n (reader_count s.wires j))) e) ∙ g.after) g.before
    ]

pub let_go_stays : (s : Setup) (h : List Event) (e : Event) (j : ℕ) → Legal s (e ∷ h) → is_let_go s h j ≡ true → is_let_go s (e ∷ h) j ≡ true
let_go_stays s h e j l q =
    let a = let_go_parts s h j q in
    let_go_from s (e ∷ h) j (published_stays e h j a.0) a.1 (by_event e l)
  where
    same : returns s h j ≡ reader_count s.wires j
    same = (let_go_parts s h j q).2

    by_event : (f : Event) → Legal s (f ∷ h) → returns s (f ∷ h) j ≡ reader_count s.wires j
    by_event (Release w i k) m = let b = returns_fit s (Release w i k ∷ h) j m in let c = same in omega arith
    by_event (Claim w i) m = same
    by_event (Charge w i c) m = same
    by_event (Publish w i) m = same
    by_event (Stop w) m = same

-- at the return after which nobody reads it an unreported layer is let go
pub last_return_lets_go : (s : Setup) (h : List Event) (e : Event) (j : ℕ) → Legal s (e ∷ h) → IsReturnOf s e j → is_reported s.wires j ≡ false → (HasReader s (e ∷ h) j → ⊥) → LetsGo s h e j
last_return_lets_go s h (Release w i k) j l r n u =
    let claimed = held_is_claimed s h w i (l.0).holds in
    let published = claimed_has_inputs s h i k j l.1 claimed r in
    let out : is_released h i k ≡ false = released_below s h i k l.1 ∙ (ap (ltb k) (sym (l.0).in_order) ∙ le-ltb k k (omega arith)) in
    record {
      before = reader_keeps s h j l.1 (record { op = i; place = k; reads = r; unreleased = out });
      after = elim (cases_Bool (is_let_go s (Release w i k ∷ h) j)) [
        | inl q ↦ q
        | inr q ↦ elim (live_has_reader s (Release w i k ∷ h) j l published q) [ inl x ↦ clash _ x n | inr x ↦ absurd (u x) ]
      ];
    }
last_return_lets_go s h (Claim w i) j l r n u = absurd r
last_return_lets_go s h (Charge w i c) j l r n u = absurd r
last_return_lets_go s h (Publish w i) j l r n u = absurd r
last_return_lets_go s h (Stop w) j l r n u = absurd r
