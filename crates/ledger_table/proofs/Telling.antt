-- What a table tells, from what stands in it.
use Rattle.std.proofs.Common.{◌≡◌, ◌⊎◌, ◌↔◌, ℕ, zero, suc, ◌+◌, ◌<◌, ◌≤◌, IsTrue, Bool, true, false, List, length, Option, None, Some, inl, inr, refl, sym, ◌∙◌, ap, subst, arith}
use Rattle.std.proofs.lemmas.Bool.{cases_Bool, cases_lt, le-leb, leb-true, and_parts, and_from, and_left}
use Rattle.std.proofs.lemmas.Option.{same_Some, slice_get_within}
use Rattle.std.specs.Prelude.{slice_get}
use lib.Dec.{leb}
use Rattle.layer_model.specs.declared.wiring.Wire.{Wire}
use Rattle.layer_model.specs.Wirings.{input}
use Rattle.number_set.specs.Members.{IsLowest as IsLowestMember, IsEmpty}
use Rattle.ledger_history.specs.declared.event.Event.{Event}
use Rattle.ledger_history.specs.Histories.{Setup, operations, is_claimed, is_charged, is_published, is_finished, is_let_go, last_claim, releases, held, total, IsComplete}
use Rattle.ledger_history.specs.Enabled.{Legal, AllFinishedBelow, IsReady, IsNext, InputIsPublished}
use Rattle.list_facts.proofs.Tests.{clash}
use Rattle.ledger_history.proofs.Orders.{charged_is_claimed, published_is_charged, claimed_is_there, held_last, last_is_claimed}
use Rattle.ledger_history.proofs.Releases.{released_is_published}
use Rattle.ledger_history.proofs.Returns.{no_third}
use Rattle.ledger_history.proofs.Holders.{claimer_is_there}
use Rattle.ledger_history.proofs.Ends.{idle_from_none}
use Rattle.ledger_table.specs.Ledgers.{Ledger, setup_with}
use Rattle.ledger_table.specs.Marks.{wired, run_of}
use Rattle.ledger_table.specs.Flags.{FlagsOf, is_in, is_open}
use Rattle.ledger_table.specs.Ends.{IsLowest}

-- ---- of an operation that isn't there nothing has happened

pub absent_charged : (s : Setup) (h : List Event) (i : ℕ) → Legal s h → operations s ≤ i → is_charged h i ≡ false
absent_charged s h i l b =
    elim (cases_Bool (is_charged h i)) [
      | inl p ↦ absurd (let c = claimed_is_there s h i l (charged_is_claimed s h i l p) in omega arith)
      | inr p ↦ p
    ]

pub absent_published : (s : Setup) (h : List Event) (i : ℕ) → Legal s h → operations s ≤ i → is_published h i ≡ false
absent_published s h i l b =
    elim (cases_Bool (is_published h i)) [
      | inl p ↦ clash _ (published_is_charged s h i l p) (absent_charged s h i l b)
      | inr p ↦ p
    ]

pub absent_finished : (s : Setup) (h : List Event) (i : ℕ) → Legal s h → operations s ≤ i → is_finished s h i ≡ false
absent_finished s h i l b = and_left (is_published h i) _ (absent_published s h i l b)

pub absent_let_go : (s : Setup) (h : List Event) (i : ℕ) → Legal s h → operations s ≤ i → is_let_go s h i ≡ false
absent_let_go s h i l b = and_left (is_published h i) _ (absent_published s h i l b)

pub absent_releases : (s : Setup) (h : List Event) (i : ℕ) → Legal s h → operations s ≤ i → releases h i ≡ 0
absent_releases s h i l b = by_count (releases h i) (released_is_published s h i l)
  where
    by_count : (n : ℕ) → (0 < n → is_published h i ≡ true) → n ≡ 0
    by_count zero p = refl
    by_count (suc n) p = absurd (clash _ (p (omega arith)) (absent_published s h i l b))

pub absent_holds : (s : Setup) (h : List Event) (w : ℕ) → Legal s h → s.workers ≤ w → held s h w ≡ None
absent_holds s h w l b = by_claim (last_claim h w) refl
  where
    by_claim : (o : Option ℕ) → last_claim h w ≡ o → held s h w ≡ None
    by_claim None e = idle_from_none s h w e
    by_claim (Some i) e = absurd (let c = claimer_is_there s h w i l e in omega arith)

-- ---- the lowest operation that isn't finished

pub lowest_none : (ws : List Wire) (budget workers : ℕ) (h : List Event) → Legal (run_of ws budget workers h) h → AllFinishedBelow (wired ws) h (length ws) → IsLowest ws h (length ws)
lowest_none ws budget workers h l a = record { there = omega arith; below = a; unfinished = absent_finished (run_of ws budget workers h) h (length ws) l (omega arith) }

pub finished_to_lowest : (ws : List Wire) (h : List Event) (m i : ℕ) → IsLowest ws h m → i ≤ m → AllFinishedBelow (wired ws) h i
finished_to_lowest ws h m i l b = λ j c. l.below j (omega arith)

pub lowest_from_finished : (ws : List Wire) (h : List Event) (m i : ℕ) → IsLowest ws h m → AllFinishedBelow (wired ws) h i → i ≤ m
lowest_from_finished ws h m i l a =
    elim (cases_lt m i) [
      | inl b ↦ clash _ (a m b) l.unfinished
      | inr b ↦ b
    ]

pub admits_by_budget : (t : Ledger) (f : ℕ → ℕ) (i n c : ℕ) → n ≡ total (setup_with f t) t.events → n + c ≤ t.budget
    → IsTrue (leb (n + c) t.budget) ↔ ((total (setup_with f t) t.events + c ≤ t.budget) ⊎ AllFinishedBelow (setup_with f t) t.events i)
admits_by_budget t f i n c e b = (λ _. inl (omega arith), λ _. le-leb (n + c) t.budget b)

pub admits_by_lowest : (t : Ledger) (f : ℕ → ℕ) (i n c m : ℕ) → n ≡ total (setup_with f t) t.events → t.budget < n + c → IsLowest t.wires t.events m
    → IsTrue (leb i m) ↔ ((total (setup_with f t) t.events + c ≤ t.budget) ⊎ AllFinishedBelow (setup_with f t) t.events i)
admits_by_lowest t f i n c m e b l = (
  λ p. inr (finished_to_lowest t.wires t.events m i l (leb-true i m p)),
  λ p. elim p [
    | inl q ↦ absurd (omega arith)
    | inr q ↦ le-leb i m (lowest_from_finished t.wires t.events m i l q)
  ],
)

pub complete_by_lowest : (ws : List Wire) (h : List Event) (m : ℕ) → IsLowest ws h m → (m ≡ length ws → IsComplete (wired ws) h) × (IsComplete (wired ws) h → m ≡ length ws)
complete_by_lowest ws h m l = (
  λ e. λ i b. l.below i (omega arith),
  λ c. let t = l.there in elim (cases_lt m (length ws)) [
    | inl b ↦ clash _ (c m b) l.unfinished
    | inr b ↦ omega arith
  ],
)

-- ---- ready operations

in_is : (h : List Event) (o : Option ℕ) → is_in h o ≡ true → (j : ℕ) → o ≡ Some j → is_published h j ≡ true
in_is h None e j q = absurd cc
in_is h (Some m) e j q = subst (λ k. is_published h k ≡ true) (same_Some m j q) e

is_in_by : (h : List Event) (o : Option ℕ) → ((j : ℕ) → o ≡ Some j → is_published h j ≡ true) → is_in h o ≡ true
is_in_by h None p = refl
is_in_by h (Some m) p = p m refl

not_false : (b : Bool) → Rattle.std.specs.Prelude.not b ≡ true → b ≡ false
not_false true e = sym e
not_false false e = refl

pub ready_from_open : (s : Setup) (h : List Event) (i : ℕ) → i < operations s → is_open s.wires h i ≡ true → IsReady s h i
ready_from_open s h i b e =
    let p = and_parts (Rattle.std.specs.Prelude.not (is_claimed h i)) _ e in
    let q = and_parts (is_in h (input s.wires i 0)) _ p.1 in
    record { there = b; unclaimed = not_false (is_claimed h i) p.0; inputs = by_place q.0 q.1 }
  where
    by_place : is_in h (input s.wires i 0) ≡ true → is_in h (input s.wires i 1) ≡ true → (k : ℕ) → InputIsPublished s h i k
    by_place p q zero = in_is h (input s.wires i 0) p
    by_place p q (suc zero) = in_is h (input s.wires i 1) q
    by_place p q (suc (suc k)) = λ j e. absurd (no_third s.wires i k j e)

pub open_from_ready : (s : Setup) (h : List Event) (i : ℕ) → IsReady s h i → is_open s.wires h i ≡ true
open_from_ready s h i r =
    and_from (Rattle.std.specs.Prelude.not (is_claimed h i)) _ (ap Rattle.std.specs.Prelude.not r.unclaimed)
    (and_from (is_in h (input s.wires i 0)) _ (is_in_by h (input s.wires i 0) (r.inputs 0)) (is_in_by h (input s.wires i 1) (r.inputs 1)))

pub next_by_flags : (s : Setup) (h : List Event) (flags : List Bool) (n : ℕ) → FlagsOf s.wires h flags → IsLowestMember flags n → IsNext s h n
next_by_flags s h flags n f l =
    let b : n < operations s = let a = slice_get_within flags n true l.member in omega (arith, f.all) in
    record {
      ready = ready_from_open s h n b (same_Some _ _ (sym (f.each n b) ∙ l.member));
      lowest = λ j r. elim (cases_lt j n) [
        | inl c ↦ clash _ (open_from_ready s h j r) (same_Some _ _ (sym (f.each j r.there) ∙ l.lowest j c))
        | inr c ↦ c
      ];
    }

pub none_by_flags : (s : Setup) (h : List Event) (flags : List Bool) → FlagsOf s.wires h flags → IsEmpty flags → (i : ℕ) → IsReady s h i → ⊥
none_by_flags s h flags f e i r =
    clash _ (open_from_ready s h i r) (same_Some _ _ (sym (f.each i r.there) ∙ e i (let a = f.all in let b = r.there in omega arith)))

-- ---- what a worker holds is there

pub held_there : (s : Setup) (h : List Event) (w i : ℕ) → Legal s h → held s h w ≡ Some i → i < operations s
held_there s h w i l e = claimed_is_there s h i l (last_is_claimed h w i (held_last s h w i e).0)

pub holder_there : (s : Setup) (h : List Event) (w i : ℕ) → Legal s h → held s h w ≡ Some i → w < s.workers
holder_there s h w i l e = claimer_is_there s h w i l (held_last s h w i e).0
