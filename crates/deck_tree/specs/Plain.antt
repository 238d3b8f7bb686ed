-- A tree without places: each offset is 0, and so is the length of a deck's text.
use Rattle.std.specs.Prelude.{ℕ, map, Option, Some, None}
use Rattle.std.specs.Option.{option_map}
use Rattle.deck_tree.specs.declared.name_at.NameAt.{NameAt}
use Rattle.deck_tree.specs.declared.number.Number.{Number}
use Rattle.deck_tree.specs.declared.value.Atom.{Atom}
use Rattle.deck_tree.specs.declared.value.Atom.TheVariants as atom
use Rattle.deck_tree.specs.declared.value.Atom.TheOpen.{Atom-F, Addend-F, Exponent-F, Factor-F}
use Rattle.deck_tree.specs.declared.value.Addend.{Addend, roll-Addend}
use Rattle.deck_tree.specs.declared.value.Exponent.{Exponent, roll-Exponent}
use Rattle.deck_tree.specs.declared.value.Factor.{Factor, roll-Factor}
use Rattle.deck_tree.specs.declared.value.Power.{Power, roll-Power}
use Rattle.deck_tree.specs.declared.value.Product.{Product, roll-Product}
use Rattle.deck_tree.specs.declared.value.Value.{Value, roll-Value, fold-Value}
use Rattle.deck_tree.specs.declared.limits.Bound.{Bound}
use Rattle.deck_tree.specs.declared.limits.Limits.{Limits}
use Rattle.deck_tree.specs.declared.limits.Limits.TheVariants as limits
use Rattle.deck_tree.specs.declared.distance.Input.{Input}
use Rattle.deck_tree.specs.declared.distance.Input.TheVariants as input
use Rattle.deck_tree.specs.declared.distance.Options.{Options}
use Rattle.deck_tree.specs.declared.distance.Distance.{Distance}
use Rattle.deck_tree.specs.declared.layer.Prefix.{Prefix}
use Rattle.deck_tree.specs.declared.layer.Prefix.TheVariants as prefix
use Rattle.deck_tree.specs.declared.layer.Prefix.TheOpen.{Prefix-F, Primary-F, Term-F, Operation-F}
use Rattle.deck_tree.specs.declared.layer.Primary.{Primary}
use Rattle.deck_tree.specs.declared.layer.Primary.TheVariants as primary
use Rattle.deck_tree.specs.declared.layer.Term.{Term}
use Rattle.deck_tree.specs.declared.layer.Term.TheVariants as term
use Rattle.deck_tree.specs.declared.layer.Layer.{Layer, roll-Layer, fold-Layer}
use Rattle.deck_tree.specs.declared.layer.Operation.{Operation, roll-Operation}
use Rattle.deck_tree.specs.declared.statement.Statement.{Statement}
use Rattle.deck_tree.specs.declared.statement.Statement.TheVariants as statement
use Rattle.deck_tree.specs.declared.statement.LayerMap.{LayerMap}
use Rattle.deck_tree.specs.declared.statement.Item.{Item}
use Rattle.deck_tree.specs.declared.statement.Item.TheVariants as item
use Rattle.deck_tree.specs.declared.deck.Deck.{Deck}

abbrev pub plain_name : NameAt → NameAt
plain_name name = record name { at = 0 }

abbrev pub plain_number : Number → Number
plain_number number = record number { at = 0 }

-- an offset, where there is one
abbrev pub plain_place : Option ℕ → Option ℕ
plain_place None = None
plain_place (Some at) = Some 0

-- ---- Values: one level each, the parts of which are plain

abbrev pub plain_atom : Atom-F Atom Addend Exponent Factor Power Product Value → Atom
plain_atom (Atom-F.Number minus number) = atom.Number (plain_place minus) (plain_number number)
plain_atom (Atom-F.Name minus name) = atom.Name (plain_place minus) (plain_name name)
plain_atom (Atom-F.Bracketed minus at value) = atom.Bracketed (plain_place minus) 0 value

abbrev pub plain_addend : Addend-F Atom Addend Exponent Factor Power Product Value → Addend
plain_addend addend = roll-Addend (record addend { at = 0 })

abbrev pub plain_exponent : Exponent-F Atom Addend Exponent Factor Power Product Value → Exponent
plain_exponent exponent = roll-Exponent (record exponent { at = 0 })

abbrev pub plain_factor : Factor-F Atom Addend Exponent Factor Power Product Value → Factor
plain_factor factor = roll-Factor (record factor { at = 0 })

abbrev pub plain_value : Value → Value
plain_value =
    fold-Value Atom Addend Exponent Factor Power Product Value
    plain_atom plain_addend plain_exponent plain_factor roll-Power roll-Product roll-Value

-- ---- What holds values

abbrev pub plain_bound : Bound → Bound
plain_bound bound = record bound { value = plain_value bound.value }

abbrev pub plain_limits : Limits → Limits
plain_limits (limits.Below bound) = limits.Below (plain_bound bound)
plain_limits (limits.Equal value) = limits.Equal (plain_value value)
plain_limits (limits.NotEqual value) = limits.NotEqual (plain_value value)
plain_limits (limits.Above sign value bound) = limits.Above sign (plain_value value) (option_map plain_bound bound)

abbrev pub plain_input : Input → Input
plain_input (input.Plain name) = input.Plain (plain_name name)
plain_input (input.Bracketed at name) = input.Bracketed 0 (plain_name name)

abbrev pub plain_options : Options → Options
plain_options options = record options { abut = option_map plain_value options.abut }

abbrev pub plain_distance : Distance → Distance
plain_distance distance = record distance {
  first = plain_input distance.first;
  second = option_map plain_input distance.second;
  bound = plain_bound distance.bound;
  options = plain_options distance.options;
}

-- ---- Layers

abbrev pub plain_prefix : Prefix-F Prefix Primary Term Layer Operation → Prefix
plain_prefix (Prefix-F.Copy term) = prefix.Copy term
plain_prefix (Prefix-F.Rectangle term) = prefix.Rectangle term
plain_prefix (Prefix-F.Area term bounds) = prefix.Area term (plain_limits bounds)
plain_prefix (Prefix-F.Length term bounds) = prefix.Length term (plain_limits bounds)
plain_prefix (Prefix-F.Size term value turn) = prefix.Size term (plain_value value) turn
plain_prefix (Prefix-F.Angle term value) = prefix.Angle term (plain_value value)
plain_prefix (Prefix-F.Expand term side value) = prefix.Expand term side (plain_value value)

abbrev pub plain_primary : Primary-F Prefix Primary Term Layer Operation → Primary
plain_primary (Primary-F.Term term) = primary.Term term
plain_primary (Primary-F.Prefix at prefixed) = primary.Prefix 0 prefixed
plain_primary (Primary-F.Distance at distance) = primary.Distance 0 (plain_distance distance)

abbrev pub plain_term : Term-F Prefix Primary Term Layer Operation → Term
plain_term (Term-F.Name name) = term.Name (plain_name name)
plain_term (Term-F.Bracketed at layer) = term.Bracketed 0 layer

abbrev pub plain_operation : Operation-F Prefix Primary Term Layer Operation → Operation
plain_operation operation = roll-Operation (record operation { at = 0 })

abbrev pub plain_layer : Layer → Layer
plain_layer =
    fold-Layer Prefix Primary Term Layer Operation plain_prefix plain_primary plain_term roll-Layer plain_operation

-- ---- Statements

abbrev pub plain_map : LayerMap → LayerMap
plain_map row = record row {
  layer = plain_number row.layer;
  kind_number = plain_number row.kind_number;
  target = plain_number row.target;
}

abbrev pub plain_item : Item → Item
plain_item (item.Note text) = item.Note text
plain_item (item.Definition name layer) = item.Definition (plain_name name) (plain_layer layer)
plain_item (item.Output layer) = item.Output (plain_layer layer)

abbrev pub plain_statement : Statement → Statement
plain_statement (statement.LayoutSystem at) = statement.LayoutSystem 0
plain_statement (statement.LayoutPath at file) = statement.LayoutPath 0 (plain_name file)
plain_statement (statement.LayoutPrimary at file) = statement.LayoutPrimary 0 (plain_name file)
plain_statement (statement.ResultsDatabase at file) = statement.ResultsDatabase 0 (plain_name file)
plain_statement (statement.SummaryReport at file) = statement.SummaryReport 0 (plain_name file)
plain_statement (statement.MaximumResults at value) = statement.MaximumResults 0 (option_map plain_value value)
plain_statement (statement.SelectCheck at names) = statement.SelectCheck 0 (map plain_name names)
plain_statement (statement.UnselectCheck at names) = statement.UnselectCheck 0 (map plain_name names)
plain_statement (statement.Precision at value) = statement.Precision 0 (plain_value value)
plain_statement (statement.Title at file) = statement.Title 0 (plain_name file)
plain_statement (statement.Variable at name value) = statement.Variable 0 (plain_name name) (plain_value value)
plain_statement (statement.Layer at name numbers) = statement.Layer 0 (plain_name name) (map plain_number numbers)
plain_statement (statement.LayerMap at row) = statement.LayerMap 0 (plain_map row)
plain_statement (statement.Definition name layer) = statement.Definition (plain_name name) (plain_layer layer)
plain_statement (statement.Check name items) = statement.Check (plain_name name) (map plain_item items)

abbrev pub plain : Deck → Deck
plain deck = record { statements = map plain_statement deck.statements; length = 0 }
