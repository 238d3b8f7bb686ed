-- Repetitions: what the tables say of them.
use Rattle.std.proofs.Common.{◌≡◌, ◌↔◌, ◌⊎◌, ℕ, zero, suc, ◌+◌, Bool, true, false, cond, ◌&&◌, ◌||◌, List, [], ◌∷◌, Option, Some, is_some, slice_get, refl, sym, ap, ◌∙◌, inl, inr}
use Rattle.std.proofs.lemmas.Bool.{and_from, and_parts, or_cases, or_left, or_right, eqb-true, eq-eqb}
use Rattle.std.proofs.lemmas.Option.{none-some, same_Some}
use Rattle.std.specs.Borrow.{Bor}
use Rattle.std.specs.List.{position_from}
use mathlib.Core.Bool.{true≢false}
use Rattle.deck_names.specs.declared.definition.Definition.{Definition}
use Rattle.deck_names.specs.declared.definition.Scope.{Scope}
use Rattle.deck_names.specs.declared.definition.Scope.TheVariants as scope
use Rattle.deck_names.specs.Definitions.{has_name, is_seen, IsRepetition, definition}
use Rattle.deck_names.specs.Tables.{is_outside, is_inside, is_in}

module _ {X : Type 0} (p : X → Bool) where
  some_there : (n : ℕ) (xs : List X) → is_some (position_from p n xs) ≡ true → (i : ℕ) × (x : X) × (slice_get xs i ≡ Some x) × (p x ≡ true)
  some_there n [] e = absurd (true≢false (sym e))
  some_there n (x ∷ xs) e = by_head (λ t. some_there (n + 1) xs t) (p x) refl e
    where
      by_head : (is_some (position_from p (n + 1) xs) ≡ true → (i : ℕ) × (y : X) × (slice_get xs i ≡ Some y) × (p y ≡ true)) → (b : Bool) → p x ≡ b → is_some (cond b (Some n) (position_from p (n + 1) xs)) ≡ true → (i : ℕ) × (y : X) × (slice_get (x ∷ xs) i ≡ Some y) × (p y ≡ true)
      by_head later true q t = (0, x, refl, q)
      by_head later false q t = let r = later t in (suc r.0, r.1, r.2, r.3)

  there_some : (n : ℕ) (xs : List X) (i : ℕ) (x : X) → slice_get xs i ≡ Some x → p x ≡ true → is_some (position_from p n xs) ≡ true
  there_some n [] i x e t = absurd (none-some x e)
  there_some n (y ∷ ys) zero x e t =
      let h = same_Some y x e in
      ap (λ b. is_some (cond b (Some n) (position_from p (n + 1) ys))) (ap p h ∙ t)
  there_some n (y ∷ ys) (suc i) x e t = by_head (there_some (n + 1) ys i x e t) (p y)
    where
      by_head : is_some (position_from p (n + 1) ys) ≡ true → (b : Bool) → is_some (cond b (Some n) (position_from p (n + 1) ys)) ≡ true
      by_head later true = refl
      by_head later false = later

module _ (definitions : List Definition) (name : Bor (List ℕ)) where
  abbrev first_that : (Scope → Bool) → Option ℕ
  first_that counts = position_from (λ d. counts d.scope && has_name name.now d) 0 definitions

  -- ---- outside checks

  inside_seen : (s : Scope) → is_inside s ≡ true → (from : Scope) × (is_seen s from ≡ true)
  inside_seen scope.Everywhere e = absurd (true≢false (sym e))
  inside_seen (scope.Check k) e = (scope.Check k, eq-eqb k k refl)

  outside_seen : (s from : Scope) → is_outside s ≡ true → is_seen s from ≡ true
  outside_seen scope.Everywhere from e = refl
  outside_seen (scope.Check k) from e = absurd (true≢false (sym e))

  repeats_outside : (is_some (first_that is_outside) || is_some (first_that is_inside)) ≡ true → IsRepetition definitions (definition name scope.Everywhere)
  repeats_outside e =
      elim (or_cases (is_some (first_that is_outside)) (is_some (first_that is_inside)) e) [
        | inl t ↦
            let r = some_there (λ d. is_outside d.scope && has_name name.now d) 0 definitions t in
            let b = and_parts (is_outside r.1.scope) (has_name name.now r.1) r.3 in
            (r.0, r.1, r.2, record { same = b.1; from = scope.Everywhere; first_seen = outside_seen r.1.scope scope.Everywhere b.0; second_seen = refl })
        | inr t ↦
            let r = some_there (λ d. is_inside d.scope && has_name name.now d) 0 definitions t in
            let b = and_parts (is_inside r.1.scope) (has_name name.now r.1) r.3 in
            let s = inside_seen r.1.scope b.0 in
            (r.0, r.1, r.2, record { same = b.1; from = s.0; first_seen = s.1; second_seen = refl })
      ]

  outside_repeats : IsRepetition definitions (definition name scope.Everywhere) → (is_some (first_that is_outside) || is_some (first_that is_inside)) ≡ true
  outside_repeats r = by_scope r.1.scope refl
    where
      by_scope : (s : Scope) → r.1.scope ≡ s → (is_some (first_that is_outside) || is_some (first_that is_inside)) ≡ true
      by_scope scope.Everywhere e =
          or_left _ _ (there_some (λ d. is_outside d.scope && has_name name.now d) 0 definitions r.0 r.1 r.2 (and_from _ _ (ap is_outside e) r.3.same))
      by_scope (scope.Check k) e =
          or_right _ _ (there_some (λ d. is_inside d.scope && has_name name.now d) 0 definitions r.0 r.1 r.2 (and_from _ _ (ap is_inside e) r.3.same))

  pub outside_tells : (b : Bool) → b ≡ (is_some (first_that is_outside) || is_some (first_that is_inside)) → (b ≡ true) ↔ IsRepetition definitions (definition name scope.Everywhere)
  outside_tells b e = (λ t. repeats_outside (sym e ∙ t), λ r. e ∙ outside_repeats r)

  -- ---- in a check

  in_seen : (k : ℕ) (s : Scope) → is_in k s ≡ true → is_seen s (scope.Check k) ≡ true
  in_seen k scope.Everywhere e = absurd (true≢false (sym e))
  in_seen k (scope.Check j) e = e

  -- what is seen from a place from which check k is seen, is outside or in that check
  seen_with : (k : ℕ) (s from : Scope) → is_seen s from ≡ true → is_seen (scope.Check k) from ≡ true → (is_outside s ≡ true) ⊎ (is_in k s ≡ true)
  seen_with k scope.Everywhere from e f = inl refl
  seen_with k (scope.Check j) scope.Everywhere e f = absurd (true≢false (sym e))
  seen_with k (scope.Check j) (scope.Check m) e f = inr (eq-eqb j k (eqb-true j m e ∙ sym (eqb-true k m f)))

  repeats_inside : (k : ℕ) → (is_some (first_that is_outside) || is_some (first_that (is_in k))) ≡ true → IsRepetition definitions (definition name (scope.Check k))
  repeats_inside k e =
      elim (or_cases (is_some (first_that is_outside)) (is_some (first_that (is_in k))) e) [
        | inl t ↦
            let r = some_there (λ d. is_outside d.scope && has_name name.now d) 0 definitions t in
            let b = and_parts (is_outside r.1.scope) (has_name name.now r.1) r.3 in
            (r.0, r.1, r.2, record { same = b.1; from = scope.Check k; first_seen = outside_seen r.1.scope (scope.Check k) b.0; second_seen = eq-eqb k k refl })
        | inr t ↦
            let r = some_there (λ d. is_in k d.scope && has_name name.now d) 0 definitions t in
            let b = and_parts (is_in k r.1.scope) (has_name name.now r.1) r.3 in
            (r.0, r.1, r.2, record { same = b.1; from = scope.Check k; first_seen = in_seen k r.1.scope b.0; second_seen = eq-eqb k k refl })
      ]

  inside_repeats : (k : ℕ) → IsRepetition definitions (definition name (scope.Check k)) → (is_some (first_that is_outside) || is_some (first_that (is_in k))) ≡ true
  inside_repeats k r =
      elim (seen_with k r.1.scope r.3.from r.3.first_seen r.3.second_seen) [
        | inl t ↦
            or_left _ _ (there_some (λ d. is_outside d.scope && has_name name.now d) 0 definitions r.0 r.1 r.2 (and_from _ _ t r.3.same))
        | inr t ↦
            or_right _ _ (there_some (λ d. is_in k d.scope && has_name name.now d) 0 definitions r.0 r.1 r.2 (and_from _ _ t r.3.same))
      ]

  pub inside_tells : (k : ℕ) (b : Bool) → b ≡ (is_some (first_that is_outside) || is_some (first_that (is_in k))) → (b ≡ true) ↔ IsRepetition definitions (definition name (scope.Check k))
  inside_tells k b e = (λ t. repeats_inside k (sym e ∙ t), λ r. e ∙ inside_repeats k r)
