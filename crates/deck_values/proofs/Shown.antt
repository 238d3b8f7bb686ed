-- What one value more shows, and one number more.
use Rattle.std.proofs.Common.{◌≡◌, List, [], ◌∷◌, ◌++◌, refl, ap}
use Rattle.std.specs.Borrow.{Bor}
use Rattle.deck_tree.specs.declared.number.Number.{Number}
use Rattle.deck_values.specs.declared.placed.PlacedValue.{PlacedValue}
use Rattle.deck_values.specs.Values.{shown, standing_of}
use Rattle.deck_values.specs.Numbers.{shown_numbers}

pub one_more : (found : List PlacedValue) (one : PlacedValue) → shown (found ++ one ∷ []) ≡ shown found ++ standing_of one ∷ []
one_more [] one = refl
one_more (x ∷ xs) one = ap (λ more. standing_of x ∷ more) (one_more xs one)

pub one_number_more : (found : List (Bor Number)) (one : Bor Number) → shown_numbers (found ++ one ∷ []) ≡ shown_numbers found ++ one.now ∷ []
one_number_more [] one = refl
one_number_more (x ∷ xs) one = ap (λ more. x.now ∷ more) (one_number_more xs one)
