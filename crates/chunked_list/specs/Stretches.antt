-- The stretches of a list that tests cut off: the items before the first that passes, and those from it on.
use Rattle.std.specs.Prelude.{◌≡◌, Bool, true, Option, List, [], ◌∷◌, ◌-◌, length, drop, slice_get}
use Rattle.std.specs.List.{AllByRecursion, position_or_len}

-- the items from the first that passes on (those before it are std's `before_first`)
abbrev pub from_first : {X : Type 0} → (X → Bool) → List X → List X
from_first test items = drop (position_or_len test items) items

-- behind an item that passes all pass
abbrev pub IsMonotone : {X : Type 0} → (X → Bool) → List X → Type 0
IsMonotone test [] = Unit {0}
IsMonotone test (x ∷ xs) = (test x ≡ true → AllByRecursion (λ y. test y ≡ true) xs) × IsMonotone test xs

-- the last item
abbrev pub last : {X : Type 0} → List X → Option X
last xs = slice_get xs (length xs - 1)
