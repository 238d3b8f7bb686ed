-- What one reference more shows.
use Rattle.std.proofs.Common.{◌≡◌, List, [], ◌∷◌, ◌++◌, refl, ap}
use Rattle.std.specs.Borrow.{Bor}
use Rattle.deck_tree.specs.declared.name_at.NameAt.{NameAt}
use Rattle.deck_uses.specs.UsedNames.{shown}

pub one_more : (names : List (Bor NameAt)) (name : Bor NameAt) → shown (names ++ name ∷ []) ≡ shown names ++ name.now ∷ []
one_more [] name = refl
one_more (x ∷ xs) name = ap (λ more. x.now ∷ more) (one_more xs name)
