-- What one definition more shows.
use Rattle.std.proofs.Common.{◌≡◌, List, [], ◌∷◌, ◌++◌, refl, ap}
use Rattle.deck_definitions.specs.declared.defined.Defined.{Defined}
use Rattle.deck_definitions.specs.Definitions.{entry_of, shown}

pub one_more : (found : List Defined) (one : Defined) → shown (found ++ one ∷ []) ≡ shown found ++ entry_of one ∷ []
one_more [] one = refl
one_more (x ∷ xs) one = ap (λ more. entry_of x ∷ more) (one_more xs one)
