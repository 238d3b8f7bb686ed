-- The checks of a deck, by the offsets of their names, and the outputs of checks, by the offsets of their first tokens.
use Rattle.std.specs.Prelude.{ℕ, [], ◌∷◌}
use Rattle.std.specs.List.{flat_map}
use Rattle.deck_tree.specs.declared.layer.Prefix.TheOpen.{Prefix-F, Primary-F, Term-F, Operation-F}
use Rattle.deck_tree.specs.declared.layer.Prefix.TheFolds.{fold-Layer}
use Rattle.deck_tree.specs.declared.layer.Layer.{Layer}
use Rattle.deck_tree.specs.declared.statement.Item.{Item}
use Rattle.deck_tree.specs.declared.statement.Item.TheVariants as item
use Rattle.deck_tree.specs.declared.statement.Statement.{Statement}
use Rattle.deck_tree.specs.declared.statement.Statement.TheVariants as statement
use Rattle.deck_tree.specs.declared.deck.Deck.{Deck}
use Rattle.deck_counts.specs.Operations.{Places}

-- ---- Where a layer begins: nothing is said of what stands behind an offset

abbrev pub Nothing : Type 0
Nothing = Unit {0}

abbrev pub prefix_start : Prefix-F Nothing ℕ ℕ ℕ Nothing → Nothing
prefix_start prefix = tt

abbrev pub primary_start : Primary-F Nothing ℕ ℕ ℕ Nothing → ℕ
primary_start (Primary-F.Term term) = term
primary_start (Primary-F.Prefix at prefix) = at
primary_start (Primary-F.Distance at distance) = at

abbrev pub term_start : Term-F Nothing ℕ ℕ ℕ Nothing → ℕ
term_start (Term-F.Name name) = name.at
term_start (Term-F.Bracketed at layer) = at

abbrev pub operation_start : Operation-F Nothing ℕ ℕ ℕ Nothing → Nothing
operation_start operation = tt

-- the offset of the first token of a layer
abbrev pub layer_start : Layer → ℕ
layer_start =
    fold-Layer Nothing ℕ ℕ ℕ Nothing prefix_start primary_start term_start (λ layer. layer.first) operation_start

-- ---- Statements

abbrev pub item_outputs : Item → Places
item_outputs (item.Note text) = []
item_outputs (item.Definition name layer) = []
item_outputs (item.Output layer) = layer_start layer ∷ []

abbrev pub statement_outputs : Statement → Places
statement_outputs (statement.LayoutSystem at) = []
statement_outputs (statement.LayoutPath at file) = []
statement_outputs (statement.LayoutPrimary at file) = []
statement_outputs (statement.ResultsDatabase at file) = []
statement_outputs (statement.SummaryReport at file) = []
statement_outputs (statement.MaximumResults at value) = []
statement_outputs (statement.SelectCheck at names) = []
statement_outputs (statement.UnselectCheck at names) = []
statement_outputs (statement.Precision at value) = []
statement_outputs (statement.Title at file) = []
statement_outputs (statement.Variable at name value) = []
statement_outputs (statement.Layer at name numbers) = []
statement_outputs (statement.LayerMap at row) = []
statement_outputs (statement.Definition name layer) = []
statement_outputs (statement.Check name items) = flat_map item_outputs items

abbrev pub statement_checks : Statement → Places
statement_checks (statement.LayoutSystem at) = []
statement_checks (statement.LayoutPath at file) = []
statement_checks (statement.LayoutPrimary at file) = []
statement_checks (statement.ResultsDatabase at file) = []
statement_checks (statement.SummaryReport at file) = []
statement_checks (statement.MaximumResults at value) = []
statement_checks (statement.SelectCheck at names) = []
statement_checks (statement.UnselectCheck at names) = []
statement_checks (statement.Precision at value) = []
statement_checks (statement.Title at file) = []
statement_checks (statement.Variable at name value) = []
statement_checks (statement.Layer at name numbers) = []
statement_checks (statement.LayerMap at row) = []
statement_checks (statement.Definition name layer) = []
statement_checks (statement.Check name items) = name.at ∷ []

-- the places of the outputs of the deck's checks, in its order
abbrev pub outputs_of : Deck → Places
outputs_of deck = flat_map statement_outputs deck.statements

-- the places of the deck's checks, in its order
abbrev pub checks_of : Deck → Places
checks_of deck = flat_map statement_checks deck.statements
