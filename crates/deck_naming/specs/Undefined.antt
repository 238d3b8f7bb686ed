-- The names of layers and of variables that stand for nothing at their places, wherever in a deck they are used.
use Rattle.std.specs.Prelude.{ℕ, ◌+◌, List, [], ◌∷◌, ◌++◌, map, is_some, if◌then◌else◌}
use Rattle.std.specs.Option.{option_map_or}
use Rattle.std.specs.List.{flat_map}
use Rattle.std.specs.Borrow.{Bor}
use Rattle.deck_tree.specs.declared.name_at.NameAt.{NameAt}
use Rattle.deck_tree.specs.declared.statement.Item.{Item}
use Rattle.deck_tree.specs.declared.statement.Item.TheVariants as item
use Rattle.deck_tree.specs.declared.statement.Statement.{Statement}
use Rattle.deck_tree.specs.declared.statement.Statement.TheVariants as statement
use Rattle.deck_tree.specs.declared.deck.Deck.{Deck}
use Rattle.deck_tree.specs.declared.refusal.DeckKind.TheVariants as kinds
use Rattle.deck_tree.specs.declared.refusal.DeckRefusal.{DeckRefusal}
use Rattle.deck_names.specs.declared.definition.Scope.{Scope}
use Rattle.deck_names.specs.declared.definition.Scope.TheVariants as scope
use Rattle.deck_uses.specs.UsedNames.{layer_names, value_names}
use Rattle.deck_definitions.specs.Definitions.{Entry, definitions_of}
use Rattle.deck_graph.specs.Graphs.{number_for, used_names}

-- a fact at the name, where no definition is seen from the place that has it
abbrev pub undefined : List Entry → Scope → NameAt → List DeckRefusal
undefined all from n =
    if is_some (number_for all from n.name) then [] else record { at = n.at; kind = kinds.UndefinedName } ∷ []

abbrev pub undefined_in : List Entry → Scope → List NameAt → List DeckRefusal
undefined_in all from = flat_map (undefined all from)

-- ---- In definitions

abbrev pub of_definition : List Entry → Entry → List DeckRefusal
of_definition all e = undefined_in all e.scope (used_names e.meaning)

-- ---- In the outputs of checks, which are numbered in the order of the deck

abbrev pub output_names : Item → List NameAt
output_names (item.Output layer) = layer_names layer
output_names (item.Note text) = []
output_names (item.Definition name layer) = []

abbrev pub of_item : List Entry → Scope → Item → List DeckRefusal
of_item all from one = undefined_in all from (output_names one)

-- the items of the check that a statement is
abbrev pub checked : Statement → List (List Item)
checked (statement.Check name items) = items ∷ []
checked other = []

-- of checks with so many before them
abbrev pub of_checks : List Entry → ℕ → List (List Item) → List DeckRefusal
of_checks all number [] = []
of_checks all number (items ∷ more) = flat_map (of_item all (scope.Check number)) items ++ of_checks all (number + 1) more

-- ---- In values that stand outside checks and in no definition

abbrev pub statement_names : Statement → List NameAt
statement_names (statement.Precision at value) = value_names value
statement_names (statement.MaximumResults at most) = option_map_or value_names most []
statement_names other = []

abbrev pub of_statement : List Entry → Statement → List DeckRefusal
of_statement all one = undefined_in all scope.Everywhere (statement_names one)

-- ---- All

abbrev pub undefined_names : Deck → List DeckRefusal
undefined_names deck =
    flat_map (of_definition (definitions_of deck)) (definitions_of deck)
    ++ (of_checks (definitions_of deck) 0 (flat_map checked deck.statements)
    ++ flat_map (of_statement (definitions_of deck)) deck.statements)

-- what references to the items of checks show
abbrev pub shown_items : List (Bor (List Item)) → List (List Item)
shown_items = map (λ items. items.now)
