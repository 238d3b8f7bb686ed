-- A deck of the first form: what it says, and its statements. It names a layout, the cell at its top, a results file
-- and one or two layers, and has one check, which wants the sides of one layer that are shorter than a bound.
use Rattle.std.specs.Prelude.{◌≡◌, ◌≢◌, ℕ, ◌+◌, ◌-◌, ◌*◌, ◌<◌, ◌≤◌, nat_lt, Bool, true, List, [], ◌∷◌, length, map, Option, Some, None, IsSome, IfSome, unwrap_or, if◌then◌else◌}
use Rattle.std.specs.Char.{is_ascii_digit}
use Rattle.std.specs.Fmt.{decimal}
use Rattle.std.specs.List.{AllPass}
use Rattle.std.specs.Str.Parse.{digits_value}
use Rattle.deck_tree.specs.declared.name_at.NameAt.{NameAt}
use Rattle.deck_tree.specs.declared.number.Number.{Number}
use Rattle.deck_tree.specs.declared.value.Atom.TheVariants as atom
use Rattle.deck_tree.specs.declared.value.Power.{roll-Power}
use Rattle.deck_tree.specs.declared.value.Product.{roll-Product}
use Rattle.deck_tree.specs.declared.value.Value.{Value, roll-Value}
use Rattle.deck_tree.specs.declared.limits.Below.TheVariants as below
use Rattle.deck_tree.specs.declared.limits.Limits.TheVariants as limits
use Rattle.deck_tree.specs.declared.layer.Prefix.{Prefix}
use Rattle.deck_tree.specs.declared.layer.Prefix.TheVariants as prefix
use Rattle.deck_tree.specs.declared.layer.Primary.TheVariants as primary
use Rattle.deck_tree.specs.declared.layer.Term.TheVariants as term
use Rattle.deck_tree.specs.declared.layer.Layer.{Layer, roll-Layer}
use Rattle.deck_tree.specs.declared.statement.Statement.{Statement}
use Rattle.deck_tree.specs.declared.statement.Statement.TheVariants as statement
use Rattle.deck_tree.specs.declared.statement.Item.TheVariants as item
use Rattle.deck_tree.specs.declared.deck.Deck.{Deck}
use Rattle.deck_tree.specs.Plain.{plain_statement}

-- a layer's name, and its number in the layout
pub record LayerLine : Type 0 where
  pub name : List ℕ
  pub number : ℕ

-- a number in user units: the digits before the point, and those behind it
pub record Decimal : Type 0 where
  pub whole : List ℕ
  pub fraction : List ℕ

-- what a deck says; `of_second` tells whether the check looks at the second layer
pub record ServedDeck : Type 0 where
  pub layout : List ℕ
  pub primary : List ℕ
  pub results : List ℕ
  pub first : LayerLine
  pub second : Option LayerLine
  pub check : List ℕ
  pub note : List ℕ
  pub of_second : Bool
  pub bound : Decimal

-- the layer that the check looks at
abbrev pub input_of : ServedDeck → LayerLine
input_of d = if d.of_second then unwrap_or d.second d.first else d.first

-- the digits behind the point, in thousandths
abbrev pub thousandths : List ℕ → ℕ
thousandths [] = 0
thousandths (a ∷ []) = 100 * (a - 48)
thousandths (a ∷ b ∷ []) = 100 * (a - 48) + 10 * (b - 48)
thousandths (a ∷ b ∷ c ∷ more) = 100 * (a - 48) + 10 * (b - 48) + (c - 48)

-- database units in a user unit
abbrev pub precision : ℕ
precision = 1000

-- of how many results a check writes at most
abbrev pub limit : ℕ
limit = 1000

-- a number in database units
abbrev pub units_of : Decimal → ℕ
units_of v = precision * digits_value 10 v.whole + thousandths v.fraction

-- ---- the statements, with 0 for each place

abbrev pub name_of : List ℕ → NameAt
name_of name = record { at = 0; name = name }

abbrev pub number_of : Decimal → Number
number_of v = record { at = 0; whole = v.whole; fraction = v.fraction }

-- a number that stands alone, as a value
abbrev pub value_of : Decimal → Value
value_of v =
    roll-Value (record { first = roll-Product (record { first = roll-Power (record { base = atom.Number None (number_of v); exponent = None }); more = [] }); more = [] })

-- `LENGTH input < bound`
abbrev pub length_of : List ℕ → Decimal → Prefix
length_of input bound =
    prefix.Length (term.Name (name_of input)) (limits.Below (record { sign = below.Less; value = value_of bound }))

abbrev pub output_of : List ℕ → Decimal → Layer
output_of input bound = roll-Layer (record { first = primary.Prefix 0 (length_of input bound); more = [] })

-- LAYER, the name, and one number
abbrev pub layer_statement : LayerLine → Statement
layer_statement l = statement.Layer 0 (name_of l.name) (number_of (record { whole = decimal l.number; fraction = [] }) ∷ [])

-- the note, then the output
abbrev pub check_statement : List ℕ → List ℕ → List ℕ → Decimal → Statement
check_statement check note input bound = statement.Check (name_of check) (item.Note note ∷ item.Output (output_of input bound) ∷ [])

-- the lines of the layers, then the check
abbrev pub layers_then : LayerLine → Option LayerLine → Statement → List Statement
layers_then first None check = layer_statement first ∷ check ∷ []
layers_then first (Some second) check = layer_statement first ∷ layer_statement second ∷ check ∷ []

abbrev pub statements_of : ServedDeck → List Statement
statements_of d =
    statement.LayoutSystem 0
    ∷ statement.LayoutPath 0 (name_of d.layout)
    ∷ statement.LayoutPrimary 0 (name_of d.primary)
    ∷ statement.ResultsDatabase 0 (name_of d.results)
    ∷ layers_then d.first d.second (check_statement d.check d.note (input_of d).name d.bound)

-- ---- which decks are served

-- ASCII
abbrev pub is_file_byte : ℕ → Bool
is_file_byte c = nat_lt c 128

pub record IsFileName (name : List ℕ) : Type 0 where
  pub some : 0 < length name
  pub bytes : AllPass is_file_byte name

-- up to six digits before the point, and up to three behind it
pub record IsDecimal (v : Decimal) : Type 0 where
  pub few_whole : length v.whole ≤ 6
  pub whole : AllPass is_ascii_digit v.whole
  pub few_fraction : length v.fraction ≤ 3
  pub fraction : AllPass is_ascii_digit v.fraction

-- a number that a layer of a layout can have
abbrev pub IsLayerLine : LayerLine → Type 0
IsLayerLine l = l.number < 65536

-- When a deck is of the first form and says d, where its own name is `deck_name`: but for the places, its statements
-- are those of d.
pub record IsFirstForm (deck_name : List ℕ) (deck : Deck) (d : ServedDeck) : Type 0 where
  pub statements : map plain_statement deck.statements ≡ statements_of d
  pub layout : IsFileName d.layout
  pub results : IsFileName d.results
  pub layout_results : d.layout ≢ d.results
  pub layout_deck : d.layout ≢ deck_name
  pub results_deck : d.results ≢ deck_name
  pub first : IsLayerLine d.first
  pub second : IfSome d.second IsLayerLine
  pub names : IfSome d.second (λ l. d.first.name ≢ l.name)
  pub input : d.of_second ≡ true → IsSome d.second
  pub bound : IsDecimal d.bound
