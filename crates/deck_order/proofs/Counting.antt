-- Marks of definitions that are opened or closed, and how many are left.
use Rattle.std.proofs.Common.{◌≡◌, ◌⊎◌, inl, inr, ℕ, zero, suc, ◌+◌, ◌<◌, Bool, List, [], ◌∷◌, length, set, Some, refl, sym, ap, subst, ◌∙◌, arith}
use Rattle.std.proofs.lemmas.Bool.{cases_eq}
use Rattle.std.proofs.lemmas.List.{length-set}
use Rattle.std.proofs.lemmas.Option.{same_Some}
use Rattle.std.specs.Prelude.{slice_get}
use Rattle.deck_order.specs.declared.mark.Mark.{Mark}
use Rattle.deck_order.specs.declared.mark.Mark.TheVariants.{Unseen, Open, Closed}
use Rattle.deck_order.specs.Working.Walks.{unseen}
use Rattle.deck_order.specs.Working.Closing.{flags_set, marks_closed}
use Rattle.list_facts.proofs.Slots.{unwritten, written, written_cases}

-- ---- how many aren't come to

pub one_less : (marks : List Mark) (v a : ℕ) → slice_get marks v ≡ Some Unseen → unseen (set marks v (Open a)) + 1 ≡ unseen marks
one_less [] v a e = absurd (cc)
one_less (Unseen ∷ ms) zero a e = refl
one_less (Open b ∷ ms) zero a e = absurd (cc)
one_less (Closed ∷ ms) zero a e = absurd (cc)
one_less (Unseen ∷ ms) (suc v) a e = let i = one_less ms v a e in omega arith
one_less (Open b ∷ ms) (suc v) a e = one_less ms v a e
one_less (Closed ∷ ms) (suc v) a e = one_less ms v a e

as_many : (marks : List Mark) (v : ℕ) → (slice_get marks v ≡ Some Unseen → ⊥) → unseen (set marks v Closed) ≡ unseen marks
as_many [] v e = refl
as_many (Unseen ∷ ms) zero e = absurd (e refl)
as_many (Open b ∷ ms) zero e = refl
as_many (Closed ∷ ms) zero e = refl
as_many (Unseen ∷ ms) (suc v) e = ap (λ n. n + 1) (as_many ms v e)
as_many (Open b ∷ ms) (suc v) e = as_many ms v e
as_many (Closed ∷ ms) (suc v) e = as_many ms v e

-- ---- marks of definitions that are closed

pub length_closed : (marks : List Mark) (us : List ℕ) → length (marks_closed marks us) ≡ length marks
length_closed marks [] = refl
length_closed marks (u ∷ us) = length-set (marks_closed marks us) u Closed ∙ length_closed marks us

pub is_closed : (marks : List Mark) (us : List ℕ) (k u : ℕ) → slice_get us k ≡ Some u → u < length marks → slice_get (marks_closed marks us) u ≡ Some Closed
is_closed marks [] k u e l = absurd (cc)
is_closed marks (v ∷ us) zero u e l =
    let q = same_Some v u e in
    subst (λ x. slice_get (set (marks_closed marks us) v Closed) x ≡ Some Closed) q (written (marks_closed marks us) v Closed (let n = length_closed marks us in omega arith))
is_closed marks (v ∷ us) (suc k) u e l =
    elim (cases_eq u v) [
      | inl q ↦ ap (slice_get (set (marks_closed marks us) v Closed)) q ∙ written (marks_closed marks us) v Closed (let n = length_closed marks us in omega arith)
      | inr q ↦ unwritten (marks_closed marks us) v u Closed q ∙ is_closed marks us k u e l
    ]

pub was_so : (marks : List Mark) (us : List ℕ) (u : ℕ) (m : Mark) → slice_get (marks_closed marks us) u ≡ Some m
    → ((k : ℕ) × (slice_get us k ≡ Some u) × (m ≡ Closed)) ⊎ (slice_get marks u ≡ Some m)
was_so marks [] u m e = inr e
was_so marks (v ∷ us) u m e =
    elim (written_cases (marks_closed marks us) v u Closed m e) [
      | inl (q, r) ↦ inl (0, ap (λ x. Some x) (sym q), r)
      | inr (q, r) ↦ elim (was_so marks us u m r) [
        | inl (k, p, t) ↦ inl (suc k, p, t)
        | inr t ↦ inr t
      ]
    ]

pub still_so : (marks : List Mark) (us : List ℕ) (u : ℕ) (m : Mark) → ((k : ℕ) → slice_get us k ≡ Some u → ⊥) → slice_get marks u ≡ Some m → slice_get (marks_closed marks us) u ≡ Some m
still_so marks [] u m n e = e
still_so marks (v ∷ us) u m n e =
    unwritten (marks_closed marks us) v u Closed (λ q. n 0 (ap (λ x. Some x) (sym q))) ∙ still_so marks us u m (λ k p. n (suc k) p) e

pub stays_closed : (marks : List Mark) (us : List ℕ) (u : ℕ) → u < length marks → slice_get marks u ≡ Some Closed → slice_get (marks_closed marks us) u ≡ Some Closed
stays_closed marks [] u l e = e
stays_closed marks (v ∷ us) u l e =
    elim (cases_eq u v) [
      | inl q ↦ ap (slice_get (set (marks_closed marks us) v Closed)) q ∙ written (marks_closed marks us) v Closed (let n = length_closed marks us in omega arith)
      | inr q ↦ unwritten (marks_closed marks us) v u Closed q ∙ stays_closed marks us u l e
    ]

pub none_seen_more : (marks : List Mark) (us : List ℕ) → ((k u : ℕ) → slice_get us k ≡ Some u → slice_get marks u ≡ Some Unseen → ⊥) → unseen (marks_closed marks us) ≡ unseen marks
none_seen_more marks [] n = refl
none_seen_more marks (v ∷ us) n =
    as_many (marks_closed marks us) v (λ e. elim (was_so marks us v Unseen e) [
      | inl (k, p, t) ↦ absurd (cc)
      | inr t ↦ n 0 v refl t
    ])
    ∙ none_seen_more marks us (λ k u p. n (suc k) u p)

-- ---- flags of definitions that are closed

pub length_flags : (flags : List Bool) (b : Bool) (us : List ℕ) → length (flags_set flags b us) ≡ length flags
length_flags flags b [] = refl
length_flags flags b (u ∷ us) = length-set (flags_set flags b us) u b ∙ length_flags flags b us

pub flag_was : (flags : List Bool) (b c : Bool) (us : List ℕ) (u : ℕ) → slice_get (flags_set flags b us) u ≡ Some c
    → ((k : ℕ) × (slice_get us k ≡ Some u) × (c ≡ b)) ⊎ (((k : ℕ) → slice_get us k ≡ Some u → ⊥) × (slice_get flags u ≡ Some c))
flag_was flags b c [] u e = inr (λ k p. absurd (cc), e)
flag_was flags b c (v ∷ us) u e =
    elim (written_cases (flags_set flags b us) v u b c e) [
      | inl (q, r) ↦ inl (0, ap (λ x. Some x) (sym q), r)
      | inr (q, r) ↦ elim (flag_was flags b c us u r) [
        | inl (k, p, t) ↦ inl (suc k, p, t)
        | inr (n, t) ↦ inr (λ k p. not_in k n q p, t)
      ]
    ]
  where
    not_in : (k : ℕ) → ((k : ℕ) → slice_get us k ≡ Some u → ⊥) → (u ≡ v → ⊥) → slice_get (v ∷ us) k ≡ Some u → ⊥
    not_in zero n q p = q (sym (same_Some v u p))
    not_in (suc k) n q p = n k p
