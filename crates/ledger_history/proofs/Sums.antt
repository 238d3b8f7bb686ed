-- Sums over the numbers below a bound.
use Rattle.std.proofs.Common.{◌≡◌, ℕ, zero, suc, ◌+◌, ◌<◌, ◌≤◌, inl, inr, List, length, get_or, take, refl, sym, ◌∙◌, ap, subst, arith, sum_by, max}
use Rattle.std.proofs.lemmas.Bool.{cases_eq, cases_lt}
use Rattle.std.proofs.lemmas.List.Sums.{sum_by_more}
use Rattle.ledger_history.specs.Totals.{sum_to, greatest_to}

pub sum_le : (f g : ℕ → ℕ) (n : ℕ) → ((i : ℕ) → i < n → f i ≤ g i) → sum_to f n ≤ sum_to g n
sum_le f g zero p = omega arith
sum_le f g (suc n) p =
    let a : sum_to f n ≤ sum_to g n = sum_le f g n (λ i q. p i (omega arith)) in
    let b : f n ≤ g n = p n (omega arith) in
    omega arith

pub sum_same : (f g : ℕ → ℕ) (n : ℕ) → ((i : ℕ) → i < n → f i ≡ g i) → sum_to f n ≡ sum_to g n
sum_same f g zero p = refl
sum_same f g (suc n) p =
    let a : sum_to f n ≡ sum_to g n = sum_same f g n (λ i q. p i (omega arith)) in
    let b : f n ≡ g n = p n (omega arith) in
    omega arith

-- one term grows by d, and the others stay
pub sum_step : (f g : ℕ → ℕ) (n i d : ℕ) → i < n → ((j : ℕ) → (j ≡ i → ⊥) → g j ≡ f j) → g i ≡ d + f i → sum_to g n ≡ d + sum_to f n
sum_step f g zero i d h p q = absurd (omega arith)
sum_step f g (suc n) i d h p q =
    elim (cases_eq n i) [
      | inl e ↦
          let a : sum_to g n ≡ sum_to f n = sum_same g f n (λ j b. p j (λ x. omega arith)) in
          let b : g n ≡ d + f n = subst (λ k. g k ≡ d + f k) (sym e) q in
          omega arith
      | inr e ↦
          let a : sum_to g n ≡ d + sum_to f n = sum_step f g n i d (omega arith) p q in
          let b : g n ≡ f n = p n e in
          omega arith
    ]

-- a term that is smaller makes the sum smaller
pub sum_less : (f g : ℕ → ℕ) (n i : ℕ) → i < n → ((j : ℕ) → f j ≤ g j) → f i < g i → sum_to f n < sum_to g n
sum_less f g zero i h p q = absurd (omega arith)
sum_less f g (suc n) i h p q =
    elim (cases_eq n i) [
      | inl e ↦
          let a : sum_to f n ≤ sum_to g n = sum_le f g n (λ j _. p j) in
          let b : f n < g n = subst (λ k. f k < g k) (sym e) q in
          omega arith
      | inr e ↦
          let a : sum_to f n < sum_to g n = sum_less f g n i (omega arith) p q in
          let b : f n ≤ g n = p n in
          omega arith
    ]

-- where a sum is smaller, a term is
pub smaller_term : (f g : ℕ → ℕ) (n : ℕ) → sum_to f n < sum_to g n → (i : ℕ) × (i < n) × (f i < g i)
smaller_term f g zero h = absurd (omega arith)
smaller_term f g (suc n) h =
    elim (cases_lt (f n) (g n)) [
      | inl a ↦ (n, omega arith, a)
      | inr a ↦ let r = smaller_term f g n (omega arith) in (r.0, omega (arith, r.1), r.2)
    ]

pub sum_zero : (f : ℕ → ℕ) (n : ℕ) → ((i : ℕ) → i < n → f i ≡ 0) → sum_to f n ≡ 0
sum_zero f zero p = refl
sum_zero f (suc n) p =
    let a : sum_to f n ≡ 0 = sum_zero f n (λ i q. p i (omega arith)) in
    let b : f n ≡ 0 = p n (omega arith) in
    omega arith

pub sum_plus : (f g : ℕ → ℕ) (n : ℕ) → sum_to (λ i. f i + g i) n ≡ sum_to f n + sum_to g n
sum_plus f g zero = refl
sum_plus f g (suc n) = let a = sum_plus f g n in omega arith

pub term_le_sum : (f : ℕ → ℕ) (n i : ℕ) → i < n → f i ≤ sum_to f n
term_le_sum f zero i h = absurd (omega arith)
term_le_sum f (suc n) i h =
    elim (cases_eq n i) [
      | inl e ↦ subst (λ k. f k ≤ sum_to f n + f n) e (omega arith)
      | inr e ↦ let a : f i ≤ sum_to f n = term_le_sum f n i (omega arith) in omega arith
    ]

pub le_greatest : (f : ℕ → ℕ) (n i : ℕ) → i < n → f i ≤ greatest_to f n
le_greatest f zero i h = absurd (omega arith)
le_greatest f (suc n) i h =
    elim (cases_eq n i) [
      | inl e ↦ subst (λ k. f k ≤ max (greatest_to f n) (f n)) e (omega arith)
      | inr e ↦ let a : f i ≤ greatest_to f n = le_greatest f n i (omega arith) in omega arith
    ]

-- a sum over a list is the sum over its places
pub sum_by_places : {X : Type 0} (f : X → ℕ) (xs : List X) (d : X) (n : ℕ) → n ≤ length xs → sum_by f (take n xs) ≡ sum_to (λ i. f (get_or xs i d)) n
sum_by_places f xs d zero h = refl
sum_by_places f xs d (suc n) h =
    let a = sum_by_places f xs d n (omega arith) in
    let b = sum_by_more f xs n d (omega arith) in
    let e : n + 1 ≡ suc n = omega arith in
    ap (λ k. sum_by f (take k xs)) (sym e) ∙ (b ∙ ap (λ k. k + f (get_or xs n d)) a)
