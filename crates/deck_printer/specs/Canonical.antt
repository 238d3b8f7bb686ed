-- The canonical text of a deck: one statement a line, and in a check one note or item a line. Keywords are in capitals and
-- short, one space stands between tokens, and none inside round and square brackets or behind the minus of an atom.
use Rattle.std.specs.Prelude.{ℕ, List, [], ◌∷◌, ◌++◌, Option, Some, None, codes}
use Rattle.std.specs.List.{flat_map}
use Rattle.deck_tree.specs.declared.name_at.NameAt.{NameAt}
use Rattle.deck_tree.specs.declared.number.Number.{Number}
use Rattle.deck_tree.specs.declared.value.Value.{Value}
use Rattle.deck_tree.specs.declared.statement.Statement.{Statement}
use Rattle.deck_tree.specs.declared.statement.Statement.TheVariants as statement
use Rattle.deck_tree.specs.declared.statement.LayerMap.{LayerMap}
use Rattle.deck_tree.specs.declared.statement.MapKind.{MapKind}
use Rattle.deck_tree.specs.declared.statement.MapKind.TheVariants as map_kind
use Rattle.deck_tree.specs.declared.statement.Item.{Item}
use Rattle.deck_tree.specs.declared.statement.Item.TheVariants as item
use Rattle.deck_tree.specs.declared.deck.Deck.{Deck}
use Rattle.deck_printer.specs.Values.{Text, number_text, value_text}
use Rattle.deck_printer.specs.Layers.{layer_text}

-- a file is a text in quotes
abbrev pub file_text : NameAt → Text
file_text file = codes "\"" ++ (file.name ++ codes "\"")

-- words, and a file behind them
abbrev pub file_line : Text → NameAt → Text
file_line words file = words ++ (file_text file ++ codes "\n")

abbrev pub most_text : Option Value → Text
most_text None = codes "ALL"
most_text (Some value) = value_text value

abbrev pub spaced_name : NameAt → Text
spaced_name name = codes " " ++ name.name

abbrev pub spaced_number : Number → Text
spaced_number number = codes " " ++ number_text number

abbrev pub map_kind_text : MapKind → Text
map_kind_text map_kind.DataType = codes " DATATYPE"
map_kind_text map_kind.TextType = codes " TEXTTYPE"

abbrev pub map_text : LayerMap → Text
map_text row = spaced_number row.layer ++ (map_kind_text row.kind ++ (spaced_number row.kind_number ++ spaced_number row.target))

-- a note without bytes is its sign alone
abbrev pub note_text : List ℕ → Text
note_text [] = codes "@"
note_text (byte ∷ more) = codes "@ " ++ byte ∷ more

abbrev pub item_text : Item → Text
item_text (item.Note text) = note_text text ++ codes "\n"
item_text (item.Definition name layer) = name.name ++ (codes " = " ++ (layer_text layer ++ codes "\n"))
item_text (item.Output layer) = layer_text layer ++ codes "\n"

abbrev pub statement_text : Statement → Text
statement_text (statement.LayoutSystem at) = codes "LAYOUT SYSTEM GDSII\n"
statement_text (statement.LayoutPath at file) = file_line (codes "LAYOUT PATH ") file
statement_text (statement.LayoutPrimary at file) = file_line (codes "LAYOUT PRIMARY ") file
statement_text (statement.ResultsDatabase at file) = codes "DRC RESULTS DATABASE " ++ (file_text file ++ codes " ASCII\n")
statement_text (statement.SummaryReport at file) = file_line (codes "DRC SUMMARY REPORT ") file
statement_text (statement.MaximumResults at most) = codes "DRC MAXIMUM RESULTS " ++ (most_text most ++ codes "\n")
statement_text (statement.SelectCheck at names) = codes "DRC SELECT CHECK" ++ (flat_map spaced_name names ++ codes "\n")
statement_text (statement.UnselectCheck at names) = codes "DRC UNSELECT CHECK" ++ (flat_map spaced_name names ++ codes "\n")
statement_text (statement.Precision at value) = codes "PRECISION " ++ (value_text value ++ codes "\n")
statement_text (statement.Title at file) = file_line (codes "TITLE ") file
statement_text (statement.Variable at name value) = codes "VARIABLE " ++ (name.name ++ (codes " " ++ (value_text value ++ codes "\n")))
statement_text (statement.Layer at name numbers) = codes "LAYER " ++ (name.name ++ (flat_map spaced_number numbers ++ codes "\n"))
statement_text (statement.LayerMap at row) = codes "LAYER MAP" ++ (map_text row ++ codes "\n")
statement_text (statement.Definition name layer) = name.name ++ (codes " = " ++ (layer_text layer ++ codes "\n"))
statement_text (statement.Check name items) = name.name ++ (codes " {\n" ++ (flat_map item_text items ++ codes "}\n"))

abbrev pub canonical : Deck → Text
canonical deck = flat_map statement_text deck.statements
