-- The first so many facts of a list.
use Rattle.std.specs.Prelude.{◌≡◌, ◌<◌, ℕ, List, Some, slice_get}
use Rattle.deck_tree.specs.declared.refusal.DeckRefusal.{DeckRefusal}

-- it is one of the first so many
abbrev pub IsBelow : ℕ → List DeckRefusal → DeckRefusal → Type 0
IsBelow bound facts r = (place : ℕ) × (place < bound) × (slice_get facts place ≡ Some r)
