-- What is said of definitions that have a flag.
use Rattle.std.specs.Prelude.{◌≡◌, ◌<◌, ℕ, Bool, true, List, Some, slice_get}
use Rattle.deck_tree.specs.declared.refusal.DeckKind.{DeckKind}
use Rattle.deck_tree.specs.declared.refusal.DeckRefusal.{DeckRefusal}
use Rattle.deck_definitions.specs.Definitions.{Entry}
use Rattle.deck_definition_facts.specs.DefinitionFacts.{said_of}

-- it is said of the definition with this number, which has a flag
pub record IsFlaggedAt (kind : DeckKind) (all : List Entry) (flags : List Bool) (number : ℕ) (r : DeckRefusal) : Type 0 where
  pub entry : Entry
  pub there : slice_get all number ≡ Some entry
  pub flag : slice_get flags number ≡ Some true
  pub said : r ≡ said_of kind entry

abbrev pub IsFlagged : DeckKind → List Entry → List Bool → DeckRefusal → Type 0
IsFlagged kind all flags r = (number : ℕ) × IsFlaggedAt kind all flags number r

-- of one of the first so many
abbrev pub IsFlaggedBelow : ℕ → DeckKind → List Entry → List Bool → DeckRefusal → Type 0
IsFlaggedBelow bound kind all flags r = (number : ℕ) × (number < bound) × IsFlaggedAt kind all flags number r
