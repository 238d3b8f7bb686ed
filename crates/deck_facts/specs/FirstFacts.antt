-- The first of the facts for which a deck is refused: that of the least offset, and at one offset that of the least number.
use Rattle.std.specs.Prelude.{◌≡◌, ◌⊎◌, ◌<◌, ℕ, List, Option, Some, None, slice_get}
use Rattle.deck_tree.specs.declared.refusal.DeckRefusal.{DeckRefusal}
use Rattle.deck_tree.specs.DeckKinds.{deck_number}

-- one fact comes before another
abbrev pub Before : (a b : DeckRefusal) → Type 0
Before a b = (a.at < b.at) ⊎ ((a.at ≡ b.at) × (deck_number a.kind < deck_number b.kind))

-- the first of facts of a kind: one of them that none comes before; or there are none
abbrev pub IsFirst : (DeckRefusal → Type 0) → Option DeckRefusal → Type 0
IsFirst Fact None = (r : DeckRefusal) → Fact r → ⊥
IsFirst Fact (Some r) = Fact r × ((s : DeckRefusal) → Fact s → Before s r → ⊥)

-- it is one of two facts, of which either may be missing
abbrev pub IsOneOf : (a b : Option DeckRefusal) → DeckRefusal → Type 0
IsOneOf a b r = (a ≡ Some r) ⊎ (b ≡ Some r)

-- it stands in a list of facts
abbrev pub IsIn : List DeckRefusal → DeckRefusal → Type 0
IsIn facts r = (place : ℕ) × (slice_get facts place ≡ Some r)
