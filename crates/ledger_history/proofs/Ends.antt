-- Ends: which event finishes an operation, and whom it leaves idle.
use Rattle.std.proofs.Common.{◌≡◌, ◌⊎◌, ℕ, zero, suc, ◌<◌, ◌≤◌, Bool, true, false, ◌&&◌, ◌||◌, cond, inl, inr, List, ◌∷◌, Option, None, Some, refl, sym, ◌∙◌, ap, subst, arith}
use Rattle.std.proofs.lemmas.Bool.{cases_lt, cases_Bool, cases_eq, or_right, ne_eqb, and_parts, and_from}
use lib.Dec.{eqb}
use Rattle.layer_model.specs.Wirings.{input}
use Rattle.ledger_history.specs.declared.event.Event.{Event}
use Rattle.ledger_history.specs.declared.event.Event.TheVariants.{Publish, Release}
use Rattle.ledger_history.specs.Histories.{Setup, is_published, is_released, is_finished, is_back, if_there, last_claim, held, if_unfinished}
use Rattle.ledger_history.specs.Enabled.{AllFinishedBelow}
use Rattle.list_facts.proofs.Tests.{clash}
use Rattle.ledger_history.proofs.Orders.{published_stays}
use Rattle.ledger_history.proofs.Returns.{released_other}

pub publish_ends_its_own : (s : Setup) (h : List Event) (w x i : ℕ) → (i ≡ x → ⊥) → is_finished s (Publish w x ∷ h) i ≡ is_finished s h i
publish_ends_its_own s h w x i n = ap (λ b. (b || is_published h i) && (is_back s h i 0 && is_back s h i 1)) (ne_eqb x i (λ e. n (sym e)))

pub release_ends_its_own : (s : Setup) (h : List Event) (w x k i : ℕ) → (i ≡ x → ⊥) → is_finished s (Release w x k ∷ h) i ≡ is_finished s h i
release_ends_its_own s h w x k i n =
    ap (λ b. is_published h i && (if_there (input s.wires i 0) b && is_back s (Release w x k ∷ h) i 1)) (released_other h w x k i 0 n)
    ∙ ap (λ b. is_published h i && (is_back s h i 0 && if_there (input s.wires i 1) b)) (released_other h w x k i 1 n)

pub released_stays : (e : Event) (h : List Event) (i k : ℕ) → is_released h i k ≡ true → is_released (e ∷ h) i k ≡ true
released_stays (Release w j m) h i k q = or_right (eqb j i && eqb m k) _ q
released_stays e h i k q = q

back_stays : (o : Option ℕ) (a b : Bool) → (a ≡ true → b ≡ true) → if_there o a ≡ true → if_there o b ≡ true
back_stays None a b p q = refl
back_stays (Some j) a b p q = p q

-- what is finished stays so
pub finished_stays : (s : Setup) (e : Event) (h : List Event) (i : ℕ) → is_finished s h i ≡ true → is_finished s (e ∷ h) i ≡ true
finished_stays s e h i q =
    let a = and_parts (is_published h i) _ q in
    let b = and_parts (is_back s h i 0) _ (a.1) in
    and_from (is_published (e ∷ h) i) _ (published_stays e h i a.0)
    (and_from (is_back s (e ∷ h) i 0) _ (back_stays (input s.wires i 0) _ _ (released_stays e h i 0) b.0)
    (back_stays (input s.wires i 1) _ _ (released_stays e h i 1) b.1))

pub unfinished_before : (s : Setup) (e : Event) (h : List Event) (i : ℕ) → is_finished s (e ∷ h) i ≡ false → is_finished s h i ≡ false
unfinished_before s e h i q =
    elim (cases_Bool (is_finished s h i)) [
      | inl p ↦ clash _ (finished_stays s e h i p) q
      | inr p ↦ p
    ]

-- who holds nothing after a history has no last claim that isn't finished
pub idle_parts : (s : Setup) (h : List Event) (o : Option ℕ) → if_unfinished s h o ≡ None → (o ≡ None) ⊎ ((i : ℕ) × (o ≡ Some i) × (is_finished s h i ≡ true))
idle_parts s h None q = inl refl
idle_parts s h (Some i) q = inr (i, refl, by_test (is_finished s h i) q)
  where
    by_test : (b : Bool) → cond b None (Some i) ≡ None → b ≡ true
    by_test true r = refl
    by_test false r = absurd cc

pub idle_from_none : (s : Setup) (h : List Event) (w : ℕ) → last_claim h w ≡ None → held s h w ≡ None
idle_from_none s h w q = ap (if_unfinished s h) q

pub idle_from_finished : (s : Setup) (h : List Event) (w i : ℕ) → last_claim h w ≡ Some i → is_finished s h i ≡ true → held s h w ≡ None
idle_from_finished s h w i p q = ap (if_unfinished s h) p ∙ ap (λ b. cond b None (Some i)) q

-- an event of an operation, whose end leaves the ends of all others as they are
pub record EndsOnly (s : Setup) (h : List Event) (e : Event) (x : ℕ) : Type 0 where
  pub before : is_finished s h x ≡ false
  pub others : (i : ℕ) → (i ≡ x → ⊥) → is_finished s (e ∷ h) i ≡ is_finished s h i

-- of two lowest unfinished operations, before and after such an event, the later one is no lower
pub lowest_moves_up : (s : Setup) (h : List Event) (e : Event) (x m : ℕ) → EndsOnly s h e x → AllFinishedBelow s (e ∷ h) m → is_finished s (e ∷ h) m ≡ false
    → (k : ℕ) × (k ≤ m) × AllFinishedBelow s h k × (is_finished s h k ≡ false)
lowest_moves_up s h e x m o below u =
    elim (cases_lt x m) [
      | inl p ↦ (x, omega arith, (λ j q. sym (o.others j (λ r. omega arith)) ∙ below j (omega arith)), o.before)
      | inr p ↦ (m, omega arith, (λ j q. sym (o.others j (λ r. omega arith)) ∙ below j q), unfinished_before s e h m u)
    ]

pub search_unfinished : (s : Setup) (h : List Event) (n : ℕ)
    → ((m : ℕ) × (m < n) × AllFinishedBelow s h m × (is_finished s h m ≡ false)) ⊎ AllFinishedBelow s h n
search_unfinished s h zero = inr (λ j q. absurd (omega arith))
search_unfinished s h (suc n) =
    elim (search_unfinished s h n) [
      | inl (m, p, q, f) ↦ inl (m, omega arith, q, f)
      | inr a ↦ elim (cases_Bool (is_finished s h n)) [
        | inl f ↦ inr (λ j q. elim (cases_eq j n) [ inl e ↦ subst (λ k. is_finished s h k ≡ true) (sym e) f | inr e ↦ a j (omega arith) ])
        | inr f ↦ inl (n, omega arith, a, f)
      ]
    ]
