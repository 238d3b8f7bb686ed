-- The deck of a text, and the faults for which it has none.
use Rattle.std.specs.Prelude.{◌≡◌, ℕ, List, length}
use Rattle.deck_tree.specs.declared.deck.Deck.{Deck}
use Rattle.deck_tree.specs.declared.refusal.DeckFault.{DeckFault}
use Rattle.deck_tree.specs.declared.refusal.DeckFault.TheVariants as faults
use Rattle.deck_refusal.specs.Refused.{IsTextAccepted, IsTextRefused}

-- the text is accepted as a deck of these statements, and the deck tells how long it is
pub record IsDeckText (text : List ℕ) (deck : Deck) : Type 0 where
  pub accepted : IsTextAccepted text deck.statements
  pub size : deck.length ≡ length text

-- a refusal is the text's; of want of memory nothing is said
abbrev pub IsFaultOf : List ℕ → DeckFault → Type 0
IsFaultOf text (faults.Refused refusal) = IsTextRefused text refusal
IsFaultOf text faults.Memory = Unit {0}
