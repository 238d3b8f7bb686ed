-- The numbers of layers of a deck, in the order of its text: those of LAYER, and those of LAYER MAP, of data and text types
-- among them.
use Rattle.std.specs.Prelude.{List, [], ◌∷◌, map}
use Rattle.std.specs.List.{flat_map}
use Rattle.std.specs.Borrow.{Bor}
use Rattle.deck_tree.specs.declared.number.Number.{Number}
use Rattle.deck_tree.specs.declared.statement.LayerMap.{LayerMap}
use Rattle.deck_tree.specs.declared.statement.Statement.{Statement}
use Rattle.deck_tree.specs.declared.statement.Statement.TheVariants as statement
use Rattle.deck_tree.specs.declared.deck.Deck.{Deck}

abbrev pub map_numbers : LayerMap → List Number
map_numbers row = row.layer ∷ row.kind_number ∷ row.target ∷ []

abbrev pub statement_numbers : Statement → List Number
statement_numbers (statement.Layer at name numbers) = numbers
statement_numbers (statement.LayerMap at row) = map_numbers row
statement_numbers other = []

abbrev pub layer_numbers_of : Deck → List Number
layer_numbers_of deck = flat_map statement_numbers deck.statements

-- what references to numbers show
abbrev pub shown_numbers : List (Bor Number) → List Number
shown_numbers = map (λ number. number.now)
