-- The operations of a deck, by the offsets of their first keywords: each LAYER statement, each operation that stands before
-- its layer but COPY, each one that stands between two, and each check of distances.
use Rattle.std.specs.Prelude.{ℕ, List, [], ◌∷◌, ◌++◌}
use Rattle.std.specs.List.{concat, flat_map}
use Rattle.deck_tree.specs.declared.layer.Prefix.{Prefix}
use Rattle.deck_tree.specs.declared.layer.Prefix.TheOpen.{Prefix-F, Primary-F, Term-F, Layer-F, Operation-F}
use Rattle.deck_tree.specs.declared.layer.Prefix.TheFolds.{fold-Prefix, fold-Primary, fold-Term, fold-Layer, fold-Operation}
use Rattle.deck_tree.specs.declared.layer.Primary.{Primary}
use Rattle.deck_tree.specs.declared.layer.Term.{Term}
use Rattle.deck_tree.specs.declared.layer.Layer.{Layer}
use Rattle.deck_tree.specs.declared.layer.Operation.{Operation}
use Rattle.deck_tree.specs.declared.statement.Item.{Item}
use Rattle.deck_tree.specs.declared.statement.Item.TheVariants as item
use Rattle.deck_tree.specs.declared.statement.Statement.{Statement}
use Rattle.deck_tree.specs.declared.statement.Statement.TheVariants as statement
use Rattle.deck_tree.specs.declared.deck.Deck.{Deck}

-- offsets in the text of a deck
abbrev pub Places : Type 0
Places = List ℕ

-- of what begins at an offset
abbrev pub PlacesFrom : Type 0
PlacesFrom = ℕ → List ℕ

-- ---- Layers: one level each, with the places of each part

abbrev pub prefix_step : Prefix-F PlacesFrom Places Places Places Places → PlacesFrom
prefix_step (Prefix-F.Copy term) at = term
prefix_step (Prefix-F.Rectangle term) at = at ∷ term
prefix_step (Prefix-F.Area term limits) at = at ∷ term
prefix_step (Prefix-F.Length term limits) at = at ∷ term
prefix_step (Prefix-F.Size term value turn) at = at ∷ term
prefix_step (Prefix-F.Angle term value) at = at ∷ term
prefix_step (Prefix-F.Expand term side value) at = at ∷ term

abbrev pub primary_step : Primary-F PlacesFrom Places Places Places Places → Places
primary_step (Primary-F.Term term) = term
primary_step (Primary-F.Prefix at prefix) = prefix at
primary_step (Primary-F.Distance at distance) = at ∷ []

abbrev pub term_step : Term-F PlacesFrom Places Places Places Places → Places
term_step (Term-F.Name name) = []
term_step (Term-F.Bracketed at layer) = layer

abbrev pub layer_step : Layer-F PlacesFrom Places Places Places Places → Places
layer_step layer = layer.first ++ concat layer.more

abbrev pub operation_step : Operation-F PlacesFrom Places Places Places Places → Places
operation_step operation = operation.at ∷ operation.right

abbrev pub prefix_operations : Prefix → PlacesFrom
prefix_operations =
    fold-Prefix PlacesFrom Places Places Places Places prefix_step primary_step term_step layer_step operation_step

abbrev pub primary_operations : Primary → Places
primary_operations =
    fold-Primary PlacesFrom Places Places Places Places prefix_step primary_step term_step layer_step operation_step

abbrev pub term_operations : Term → Places
term_operations =
    fold-Term PlacesFrom Places Places Places Places prefix_step primary_step term_step layer_step operation_step

abbrev pub layer_operations : Layer → Places
layer_operations =
    fold-Layer PlacesFrom Places Places Places Places prefix_step primary_step term_step layer_step operation_step

abbrev pub operation_operations : Operation → Places
operation_operations =
    fold-Operation PlacesFrom Places Places Places Places prefix_step primary_step term_step layer_step operation_step

-- ---- Statements

abbrev pub item_operations : Item → Places
item_operations (item.Note text) = []
item_operations (item.Definition name layer) = layer_operations layer
item_operations (item.Output layer) = layer_operations layer

abbrev pub statement_operations : Statement → Places
statement_operations (statement.LayoutSystem at) = []
statement_operations (statement.LayoutPath at file) = []
statement_operations (statement.LayoutPrimary at file) = []
statement_operations (statement.ResultsDatabase at file) = []
statement_operations (statement.SummaryReport at file) = []
statement_operations (statement.MaximumResults at value) = []
statement_operations (statement.SelectCheck at names) = []
statement_operations (statement.UnselectCheck at names) = []
statement_operations (statement.Precision at value) = []
statement_operations (statement.Title at file) = []
statement_operations (statement.Variable at name value) = []
statement_operations (statement.Layer at name numbers) = at ∷ []
statement_operations (statement.LayerMap at row) = []
statement_operations (statement.Definition name layer) = layer_operations layer
statement_operations (statement.Check name items) = flat_map item_operations items

-- the places of the operations of the deck, in its order
abbrev pub operations_of : Deck → Places
operations_of deck = flat_map statement_operations deck.statements
