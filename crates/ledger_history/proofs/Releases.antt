-- Releases: the places of an operation are released in order, after its publish, so that their number says which.
use Rattle.std.proofs.Common.{◌≡◌, ℕ, ◌<◌, ◌≤◌, ◌+◌, Bool, true, false, ◌&&◌, ◌||◌, cond, List, [], ◌∷◌, Option, None, Some, refl, sym, ◌∙◌, ap, subst, arith}
use Rattle.std.proofs.lemmas.Bool.{true≢false, cases_Bool, or_cases, or_left, or_right, eqb-true, eqb-false, and_parts, and_from, lt-ltb, le-ltb, ltb-true, le-leb, lt-leb}
use Rattle.std.proofs.lemmas.Bool.Decides.{nat_tests}
use lib.Dec.{eqb, ltb, leb}
use Rattle.layer_model.specs.Wirings.{input, input_count, one_if_some, IsWiring}
use Rattle.ledger_history.specs.declared.event.Event.{Event}
use Rattle.ledger_history.specs.declared.event.Event.TheVariants.{Publish, Release}
use Rattle.ledger_history.specs.Histories.{Setup, is_published, is_released, is_finished, if_there, releases}
use Rattle.ledger_history.specs.Enabled.{Legal}

one_more : (b : Bool) (r n : ℕ) → (b ≡ true → r < n) → (b ≡ false → r ≤ n) → cond b 1 0 + r ≤ n
one_more true r n p q = let h : r < n = p refl in omega arith
one_more false r n p q = let h : r ≤ n = q refl in omega arith

-- no more releases than places
pub releases_fit : (s : Setup) (h : List Event) (i : ℕ) → Legal s h → releases h i ≤ input_count s.wires i
releases_fit s [] i l = omega arith
releases_fit s (Release w j m ∷ h) i l =
    one_more (eqb j i) (releases h i) (input_count s.wires i)
    (λ p. subst (λ k. releases h k < input_count s.wires k) (eqb-true j i p) (subst (λ r. r < input_count s.wires j) (l.0).in_order (l.0).place))
    (λ _. releases_fit s h i l.1)
releases_fit s (e ∷ h) i l = releases_fit s h i l.1

last_or_below : (m k r : ℕ) (b : Bool) → m ≡ r → b ≡ ltb k r → eqb m k || b ≡ ltb k (1 + r)
last_or_below m k r b e f = grind (arith, nat_tests)

-- a place is released exactly where its number is below that of the releases
pub released_below : (s : Setup) (h : List Event) (i k : ℕ) → Legal s h → is_released h i k ≡ ltb k (releases h i)
released_below s [] i k l = sym (le-ltb k 0 (omega arith))
released_below s (Release w j m ∷ h) i k l = by_test (released_below s h i k l.1) (eqb j i) refl
  where
    by_test : is_released h i k ≡ ltb k (releases h i) → (b : Bool) → eqb j i ≡ b → (b && eqb m k) || is_released h i k ≡ ltb k (cond b 1 0 + releases h i)
    by_test q false e = q ∙ ap (ltb k) (omega arith)
    by_test q true e = last_or_below m k (releases h i) (is_released h i k) ((l.0).in_order ∙ ap (releases h) (eqb-true j i e)) q
released_below s (e ∷ h) i k l = released_below s h i k l.1

-- only the places of a published operation are released
pub released_is_published : (s : Setup) (h : List Event) (i : ℕ) → Legal s h → 0 < releases h i → is_published h i ≡ true
released_is_published s [] i l q = absurd (omega arith)
released_is_published s (Publish w j ∷ h) i l q = or_right (eqb j i) _ (released_is_published s h i l.1 q)
released_is_published s (Release w j m ∷ h) i l q = by_test (released_is_published s h i l.1) (eqb j i) refl q
  where
    by_test : (0 < releases h i → is_published h i ≡ true) → (b : Bool) → eqb j i ≡ b → 0 < cond b 1 0 + releases h i → is_published h i ≡ true
    by_test r true e p = subst (λ k. is_published h k ≡ true) (eqb-true j i e) (l.0).published
    by_test r false e p = r (omega arith)
released_is_published s (e ∷ h) i l q = released_is_published s h i l.1 q

-- a finished operation is a published one with a release for each of its places
pub finished_by_count : (s : Setup) (h : List Event) (i : ℕ) → IsWiring s.wires → Legal s h
    → is_finished s h i ≡ (is_published h i && leb (input_count s.wires i) (releases h i))
finished_by_count s h i v l =
    ap (λ b. is_published h i && b)
    (by_inputs (input s.wires i 0) (input s.wires i 1) (v.in_order i) (is_released h i 0) (is_released h i 1) (releases h i)
    (released_below s h i 0 l) (released_below s h i 1 l))
  where
    by_inputs : (f g : Option ℕ) → (f ≡ None → g ≡ None) → (p q : Bool) (r : ℕ) → p ≡ ltb 0 r → q ≡ ltb 1 r
        → (if_there f p && if_there g q) ≡ leb (one_if_some f + one_if_some g) r
    by_inputs None None o p q r e f = sym (le-leb 0 r (omega arith))
    by_inputs None (Some j) o p q r e f = absurd (let x : Some j ≡ None = o refl in cc)
    by_inputs (Some i) None o p q r e f = grind (arith, nat_tests)
    by_inputs (Some i) (Some j) o p q r e f = grind (arith, nat_tests)

-- an event other than the operation's own publish or release leaves its end as it is
pub finished_is_published : (s : Setup) (h : List Event) (i : ℕ) → is_finished s h i ≡ true → is_published h i ≡ true
finished_is_published s h i q = (and_parts (is_published h i) _ q).0

pub finished_has_releases : (s : Setup) (h : List Event) (i : ℕ) → IsWiring s.wires → Legal s h → is_finished s h i ≡ true → releases h i ≡ input_count s.wires i
finished_has_releases s h i v l q =
    let p : (is_published h i && leb (input_count s.wires i) (releases h i)) ≡ true = sym (finished_by_count s h i v l) ∙ q in
    let r = (and_parts (is_published h i) _ p).1 in
    let b = releases_fit s h i l in
    omega (arith, Rattle.std.proofs.lemmas.Bool.leb-true (input_count s.wires i) (releases h i) r)
