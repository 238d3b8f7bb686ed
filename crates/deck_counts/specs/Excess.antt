-- What a deck has one more of than it may have.
use Rattle.std.specs.Prelude.{nat_lt, Option, Some, None, slice_get, if◌then◌else◌}
use Rattle.std.specs.Option.{option_map}
use Rattle.deck_tree.specs.declared.refusal.DeckKind.TheVariants as kinds
use Rattle.deck_tree.specs.declared.refusal.Counted.{Counted}
use Rattle.deck_tree.specs.declared.refusal.Counted.TheVariants as counted
use Rattle.deck_tree.specs.declared.refusal.DeckRefusal.{DeckRefusal}
use Rattle.deck_tree.specs.declared.deck.Deck.{Deck}
use Rattle.deck_counts.specs.Operations.{Places, operations_of}
use Rattle.deck_counts.specs.Outputs.{checks_of, outputs_of}

-- the 4,097th of them, if there are so many
abbrev pub excess : Counted → Places → Option DeckRefusal
excess what places = option_map (λ at. record { at = at; kind = kinds.TooMany what }) (slice_get places 4096)

-- that of the lesser offset; at one offset the first
abbrev pub first_of : Option DeckRefusal → Option DeckRefusal → Option DeckRefusal
first_of None b = b
first_of (Some a) None = Some a
first_of (Some a) (Some b) = if nat_lt b.at a.at then Some b else Some a

-- the first of the three facts, at one offset in this order
abbrev pub first_excess : Deck → Option DeckRefusal
first_excess deck =
    first_of (excess counted.Operations (operations_of deck))
    (first_of (excess counted.Checks (checks_of deck)) (excess counted.Outputs (outputs_of deck)))
