-- Goings: a run that isn't stopped and isn't complete can go on.
use Rattle.std.proofs.Common.{◌≡◌, ◌⊎◌, ℕ, ◌<◌, ◌≤◌, true, false, cond, inl, inr, List, [], ◌∷◌, Option, None, Some, refl, sym, ◌∙◌, ap, subst, arith}
use Rattle.std.proofs.lemmas.Bool.{cases_lt, cases_Bool, cases_eq, eq-eqb, or_cases, or_left, or_right, or_parts, ne_eqb, eqb-true, and_from, le-leb}
use lib.Dec.{eqb}
use Rattle.layer_model.specs.Wirings.{input_count, IsWiring}
use Rattle.ledger_history.specs.declared.event.Event.{Event}
use Rattle.ledger_history.specs.declared.event.Event.TheVariants.{Claim, Charge, Publish, Release, Stop}
use Rattle.ledger_history.specs.Histories.{Setup, operations, is_claimed, is_charged, is_published, is_finished, is_stopped, releases, last_claim, held}
use Rattle.ledger_history.specs.Enabled.{Legal, AllFinishedBelow, IsNext}
use Rattle.ledger_history.specs.Steps.{has_claim, CanGoOn}
use Rattle.list_facts.proofs.Tests.{clash}
use Rattle.ledger_history.proofs.Choices.{eqb_itself, some_of_if, some_of_none_if}
use Rattle.ledger_history.proofs.Orders.{held_last, last_is_held, charged_is_claimed, published_is_charged}
use Rattle.ledger_history.proofs.Releases.{finished_is_published, finished_by_count}
use Rattle.ledger_history.proofs.Holders.{claimer_is_there}
use Rattle.ledger_history.proofs.Ends.{publish_ends_its_own, release_ends_its_own, unfinished_before, finished_stays, idle_parts, idle_from_none, idle_from_finished, search_unfinished}

-- the worker of a last claim has a claim
pub last_has_claim : (h : List Event) (w i : ℕ) → last_claim h w ≡ Some i → has_claim h w ≡ true
last_has_claim [] w i q = absurd cc
last_has_claim (Claim v j ∷ h) w i q =
    elim (some_of_if (eqb v w) j i (last_claim h w) q) [
      | inl p ↦ or_left (eqb v w) _ p.0
      | inr p ↦ or_right (eqb v w) _ (last_has_claim h w i p.1)
    ]
last_has_claim (Stop v ∷ h) w i q = last_has_claim h w i (some_of_none_if (eqb v w) i (last_claim h w) q).1
last_has_claim (e ∷ h) w i q = last_has_claim h w i q

-- unless the run is stopped, each claimed unfinished operation is the last claim of a worker
pub unfinished_is_held : (s : Setup) (h : List Event) (i : ℕ) → Legal s h → is_stopped h ≡ false → is_claimed h i ≡ true → is_finished s h i ≡ false → (w : ℕ) × (last_claim h w ≡ Some i)
unfinished_is_held s [] i l r c u = clash _ c refl
unfinished_is_held s (Claim v j ∷ h) i l r c u =
    elim (or_cases (eqb j i) (is_claimed h i) c) [
      | inl p ↦ (v, ap (λ b. cond b (Some j) (last_claim h v)) (eqb_itself v) ∙ ap Some (eqb-true j i p))
      | inr p ↦ by_worker (unfinished_is_held s h i l.1 r p u)
    ]
  where
    by_worker : (w : ℕ) × (last_claim h w ≡ Some i) → (w : ℕ) × (last_claim (Claim v j ∷ h) w ≡ Some i)
    by_worker (w, q) =
        elim (cases_eq v w) [
          | inl e ↦ absurd (let a : held s h w ≡ Some i = last_is_held s h w i q u in let b : held s h w ≡ None = subst (λ k. held s h k ≡ None) e (l.0).idle in cc)
          | inr e ↦ (w, ap (λ b. cond b (Some j) (last_claim h w)) (ne_eqb v w e) ∙ q)
        ]
unfinished_is_held s (Charge v j d ∷ h) i l r c u = unfinished_is_held s h i l.1 r c u
unfinished_is_held s (Publish v j ∷ h) i l r c u = unfinished_is_held s h i l.1 r c (unfinished_before s (Publish v j) h i u)
unfinished_is_held s (Release v j k ∷ h) i l r c u = unfinished_is_held s h i l.1 r c (unfinished_before s (Release v j k) h i u)
unfinished_is_held s (Stop v ∷ h) i l r c u = clash _ refl r

-- the lowest unfinished operation is ready where it isn't claimed, and the next one
pub lowest_is_next : (s : Setup) (h : List Event) (m : ℕ) → IsWiring s.wires → Legal s h → AllFinishedBelow s h m → m < operations s → is_claimed h m ≡ false → IsNext s h m
lowest_is_next s h m v l below there u =
    record {
      ready = record { there = there; unclaimed = u; inputs = λ k j e. finished_is_published s h j (below j (v.lower m k j e)) };
      lowest = λ j r. elim (cases_lt j m) [
        | inl p ↦ clash _ (charged_is_claimed s h j l (published_is_charged s h j l (finished_is_published s h j (below j p)))) r.unclaimed
        | inr p ↦ p
      ];
    }

-- a worker that has claimed is idle, or nobody has claimed
abbrev pub SomeIdle : Setup → List Event → Type 0
SomeIdle s h = ((w : ℕ) × (w < s.workers) × (has_claim h w ≡ true) × (held s h w ≡ None)) ⊎ ((w : ℕ) → has_claim h w ≡ false)

idle_stays : (s : Setup) (e : Event) (h : List Event) (w : ℕ) → last_claim (e ∷ h) w ≡ last_claim h w → held s h w ≡ None → held s (e ∷ h) w ≡ None
idle_stays s e h w q p =
    elim (idle_parts s h (last_claim h w) p) [
      | inl a ↦ idle_from_none s (e ∷ h) w (q ∙ a)
      | inr a ↦ idle_from_finished s (e ∷ h) w a.0 (q ∙ a.1) (finished_stays s e h a.0 a.2)
    ]

pub idle_for_lowest : (s : Setup) (h : List Event) (m : ℕ) → IsWiring s.wires → Legal s h → is_stopped h ≡ false → AllFinishedBelow s h m → m < operations s → is_claimed h m ≡ false → SomeIdle s h
idle_for_lowest s [] m v l r below there u = inr (λ w. refl)
idle_for_lowest s (Claim w j ∷ h) m v l r below there u =
    let parts = or_parts (eqb j m) (is_claimed h m) u in
    let next = lowest_is_next s h m v l.1 below there parts.1 in
    let a : j ≤ m = (l.0).next.lowest m next.ready in
    let b : m ≤ j = next.lowest j (l.0).next.ready in
    clash _ (eq-eqb j m (omega arith)) parts.0
idle_for_lowest s (Charge w j c ∷ h) m v l r below there u = idle_for_lowest s h m v l.1 r below there u
idle_for_lowest s (Publish w x ∷ h) m v l r below there u =
    elim (cases_lt x m) [
      | inl p ↦
          let last = (held_last s h w x (l.0).holds).0 in
          inl (w, claimer_is_there s h w x l.1 last, last_has_claim h w x last, idle_from_finished s (Publish w x ∷ h) w x last (below x p))
      | inr p ↦ elim (idle_for_lowest s h m v l.1 r (λ j q. sym (publish_ends_its_own s h w x j (λ y. omega arith)) ∙ below j q) there u) [
        | inl (y, a, b, d) ↦ inl (y, a, b, idle_stays s (Publish w x) h y refl d)
        | inr a ↦ inr a
      ]
    ]
idle_for_lowest s (Release w x k ∷ h) m v l r below there u =
    elim (cases_lt x m) [
      | inl p ↦
          let last = (held_last s h w x (l.0).holds).0 in
          inl (w, claimer_is_there s h w x l.1 last, last_has_claim h w x last, idle_from_finished s (Release w x k ∷ h) w x last (below x p))
      | inr p ↦ elim (idle_for_lowest s h m v l.1 r (λ j q. sym (release_ends_its_own s h w x k j (λ y. omega arith)) ∙ below j q) there u) [
        | inl (y, a, b, d) ↦ inl (y, a, b, idle_stays s (Release w x k) h y refl d)
        | inr a ↦ inr a
      ]
    ]
idle_for_lowest s (Stop w ∷ h) m v l r below there u = clash _ refl r

-- what the worker that holds the lowest unfinished operation may do
holder_goes_on : (s : Setup) (h : List Event) (m w : ℕ) → IsWiring s.wires → Legal s h → is_stopped h ≡ false → AllFinishedBelow s h m → is_finished s h m ≡ false → last_claim h w ≡ Some m → CanGoOn s h
holder_goes_on s h m w v l r below u last =
    elim (cases_Bool (is_charged h m)) [
      | inr c ↦ record { event = Charge w m (s.cost m); enabled = record { runs = r; holds = holds; uncharged = c; cost = refl; fits = inr below }; goes_on = refl; worker = inl known }
      | inl c ↦ elim (cases_Bool (is_published h m)) [
        | inr p ↦ record { event = Publish w m; enabled = record { holds = holds; charged = c; unpublished = p }; goes_on = refl; worker = inl known }
        | inl p ↦ record { event = Release w m (releases h m); enabled = record { holds = holds; published = p; in_order = refl; place = left p }; goes_on = refl; worker = inl known }
      ]
    ]
  where
    holds : held s h w ≡ Some m
    holds = last_is_held s h w m last u

    known : has_claim h w ≡ true
    known = last_has_claim h w m last

    left : is_published h m ≡ true → releases h m < input_count s.wires m
    left p =
        elim (cases_lt (releases h m) (input_count s.wires m)) [
          | inl q ↦ q
          | inr q ↦ clash _ (finished_by_count s h m v l ∙ and_from (is_published h m) _ p (le-leb (input_count s.wires m) (releases h m) q)) u
        ]

pub can_go_on : (s : Setup) (h : List Event) (i : ℕ) → IsWiring s.wires → 0 < s.workers → Legal s h → is_stopped h ≡ false → i < operations s → is_finished s h i ≡ false → CanGoOn s h
can_go_on s h i v some l r there u =
    elim (search_unfinished s h (operations s)) [
      | inr all ↦ clash _ (all i there) u
      | inl (m, at, below, f) ↦ elim (cases_Bool (is_claimed h m)) [
        | inl c ↦ let w = unfinished_is_held s h m l r c f in holder_goes_on s h m w.0 v l r below f w.1
        | inr c ↦ claims m at below c (idle_for_lowest s h m v l r below at c)
      ]
    ]
  where
    none_idle : (w : ℕ) → ((v : ℕ) → has_claim h v ≡ false) → held s h w ≡ None
    none_idle w q = by_claim (last_claim h w) refl
      where
        by_claim : (o : Option ℕ) → last_claim h w ≡ o → held s h w ≡ None
        by_claim None e = idle_from_none s h w e
        by_claim (Some j) e = clash _ (last_has_claim h w j e) (q w)

    claims : (m : ℕ) → m < operations s → AllFinishedBelow s h m → is_claimed h m ≡ false → SomeIdle s h → CanGoOn s h
    claims m at below c (inl (w, a, b, d)) = record { event = Claim w m; enabled = record { runs = r; worker = a; idle = d; next = lowest_is_next s h m v l below at c }; goes_on = refl; worker = inl b }
    claims m at below c (inr a) = record { event = Claim 0 m; enabled = record { runs = r; worker = some; idle = none_idle 0 a; next = lowest_is_next s h m v l below at c }; goes_on = refl; worker = inr a }
