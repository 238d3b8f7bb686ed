-- Tests that tell no items apart.
use Rattle.std.proofs.Common.{true, false, List, [], ◌∷◌, refl}
use Rattle.std.specs.List.{AllByRecursion}
use mathlib.Core.Bool.{true≢false}
use mathlib.Core.Path.{◌≡◌, sym}
use Rattle.chunked_list.specs.Stretches.{IsMonotone}

module _ {X : Type 0} where
  pub nowhere_monotone : (xs : List X) → IsMonotone (λ (x : X). false) xs
  nowhere_monotone [] = tt
  nowhere_monotone (x ∷ xs) = (λ e. absurd (true≢false (sym e)), nowhere_monotone xs)

  all_pass : (xs : List X) → AllByRecursion (λ (x : X). true ≡ true) xs
  all_pass [] = tt
  all_pass (x ∷ xs) = (refl, all_pass xs)

  pub anywhere_monotone : (xs : List X) → IsMonotone (λ (x : X). true) xs
  anywhere_monotone [] = tt
  anywhere_monotone (x ∷ xs) = (λ e. all_pass xs, anywhere_monotone xs)
