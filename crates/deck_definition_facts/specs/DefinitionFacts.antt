-- The facts of a deck's definitions. Each stands at the name that the definition gives.
use Rattle.std.specs.Prelude.{◌≡◌, ℕ, List, Some, slice_get}
use Rattle.deck_tree.specs.declared.refusal.DeckKind.{DeckKind}
use Rattle.deck_tree.specs.declared.refusal.DeckKind.TheVariants as kinds
use Rattle.deck_tree.specs.declared.refusal.DeckRefusal.{DeckRefusal}
use Rattle.deck_definitions.specs.Definitions.{Entry}
use Rattle.deck_graph.specs.Graphs.{IsRepeated, LeadsTo}

abbrev pub said_of : DeckKind → Entry → DeckRefusal
said_of kind e = record { at = e.name.at; kind = kind }

-- a fact of this kind at one of the definitions of which something holds
pub record IsFactOf (kind : DeckKind) (Holds : ℕ → Type 0) (all : List Entry) (r : DeckRefusal) : Type 0 where
  pub number : ℕ
  pub entry : Entry
  pub there : slice_get all number ≡ Some entry
  pub holds : Holds number
  pub said : r ≡ said_of kind entry

-- one use after another leads from a definition back to it
abbrev pub IsCircle : List Entry → DeckRefusal → Type 0
IsCircle all = IsFactOf kinds.LayerCycle (λ number. LeadsTo all number number) all

-- a definition repeats an earlier one
abbrev pub IsDuplicate : List Entry → DeckRefusal → Type 0
IsDuplicate all = IsFactOf kinds.DuplicateName (IsRepeated all) all
