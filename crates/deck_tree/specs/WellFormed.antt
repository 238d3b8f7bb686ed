-- Decks as their texts can say them: each name, file, number and note is one, a list that has to have something has it,
-- the options of a check go together, and no more than 64 round brackets stand inside one another. All compute.
use Rattle.std.specs.Prelude.{◌≡◌, ℕ, suc, ◌≤◌, max, ◌&&◌, ◌||◌, Bool, true, false, not, List, [], ◌∷◌, map, Option, is_some}
use Rattle.std.specs.List.{list_all}
use Rattle.std.specs.Option.{option_map_or}
use Rattle.deck_tree.specs.Words.{is_name, is_file, is_whole, is_fraction, is_note}
use Rattle.deck_tree.specs.declared.name_at.NameAt.{NameAt}
use Rattle.deck_tree.specs.declared.number.Number.{Number}
use Rattle.deck_tree.specs.declared.value.Atom.TheOpen.{Atom-F, Power-F}
use Rattle.deck_tree.specs.declared.value.Value.{Value, fold-Value}
use Rattle.deck_tree.specs.declared.limits.Bound.{Bound}
use Rattle.deck_tree.specs.declared.limits.Limits.{Limits}
use Rattle.deck_tree.specs.declared.limits.Limits.TheVariants as limits
use Rattle.deck_tree.specs.declared.distance.Input.{Input}
use Rattle.deck_tree.specs.declared.distance.Input.TheVariants as input
use Rattle.deck_tree.specs.declared.distance.Distance.{Distance}
use Rattle.deck_tree.specs.declared.distance.DistanceKind.{DistanceKind}
use Rattle.deck_tree.specs.declared.distance.DistanceKind.TheVariants as distance_kind
use Rattle.deck_tree.specs.declared.layer.Prefix.TheOpen.{Prefix-F, Primary-F, Term-F}
use Rattle.deck_tree.specs.declared.layer.Layer.{Layer, fold-Layer}
use Rattle.deck_tree.specs.declared.statement.Statement.{Statement}
use Rattle.deck_tree.specs.declared.statement.Statement.TheVariants as statement
use Rattle.deck_tree.specs.declared.statement.LayerMap.{LayerMap}
use Rattle.deck_tree.specs.declared.statement.Item.{Item}
use Rattle.deck_tree.specs.declared.statement.Item.TheVariants as item
use Rattle.deck_tree.specs.declared.deck.Deck.{Deck}

-- the greatest of some numbers, or 0
abbrev pub deepest : List ℕ → ℕ
deepest [] = 0
deepest (n ∷ more) = max n (deepest more)

-- all of some tests
abbrev pub all_hold : List Bool → Bool
all_hold [] = true
all_hold (test ∷ more) = test && all_hold more

abbrev pub is_formed_name : NameAt → Bool
is_formed_name name = is_name name.name

abbrev pub is_formed_file : NameAt → Bool
is_formed_file file = is_file file.name

abbrev pub is_formed_number : Number → Bool
is_formed_number number = is_whole number.whole && is_fraction number.fraction

-- ---- Values: one level each, with a test of each part in its place

abbrev pub is_formed_atom : Atom-F Bool Bool Bool Bool Bool Bool Bool → Bool
is_formed_atom (Atom-F.Number minus number) = is_formed_number number
is_formed_atom (Atom-F.Name minus name) = is_formed_name name
is_formed_atom (Atom-F.Bracketed minus at value) = value

abbrev pub is_formed_power : Power-F Bool Bool Bool Bool Bool Bool Bool → Bool
is_formed_power power = power.base && option_map_or (λ exponent. exponent) power.exponent true

abbrev pub is_formed_value : Value → Bool
is_formed_value =
    fold-Value Bool Bool Bool Bool Bool Bool Bool
    is_formed_atom (λ addend. addend.product) (λ exponent. exponent.atom) (λ factor. factor.power) is_formed_power
    (λ product. product.first && all_hold product.more) (λ value. value.first && all_hold value.more)

-- how many round brackets of a value stand inside one another
abbrev pub depth_of_atom : Atom-F ℕ ℕ ℕ ℕ ℕ ℕ ℕ → ℕ
depth_of_atom (Atom-F.Number minus number) = 0
depth_of_atom (Atom-F.Name minus name) = 0
depth_of_atom (Atom-F.Bracketed minus at value) = suc value

abbrev pub depth_of_power : Power-F ℕ ℕ ℕ ℕ ℕ ℕ ℕ → ℕ
depth_of_power power = max power.base (option_map_or (λ exponent. exponent) power.exponent 0)

abbrev pub depth_of_value : Value → ℕ
depth_of_value =
    fold-Value ℕ ℕ ℕ ℕ ℕ ℕ ℕ
    depth_of_atom (λ addend. addend.product) (λ exponent. exponent.atom) (λ factor. factor.power) depth_of_power
    (λ product. max product.first (deepest product.more)) (λ value. max value.first (deepest value.more))

-- ---- What holds values

abbrev pub is_formed_bound : Bound → Bool
is_formed_bound bound = is_formed_value bound.value

abbrev pub is_formed_limits : Limits → Bool
is_formed_limits (limits.Below bound) = is_formed_bound bound
is_formed_limits (limits.Equal value) = is_formed_value value
is_formed_limits (limits.NotEqual value) = is_formed_value value
is_formed_limits (limits.Above sign value bound) = is_formed_value value && option_map_or is_formed_bound bound true

abbrev pub depth_of_bound : Bound → ℕ
depth_of_bound bound = depth_of_value bound.value

abbrev pub depth_of_limits : Limits → ℕ
depth_of_limits (limits.Below bound) = depth_of_bound bound
depth_of_limits (limits.Equal value) = depth_of_value value
depth_of_limits (limits.NotEqual value) = depth_of_value value
depth_of_limits (limits.Above sign value bound) = max (depth_of_value value) (option_map_or depth_of_bound bound 0)

abbrev pub is_formed_input : Input → Bool
is_formed_input (input.Plain name) = is_formed_name name
is_formed_input (input.Bracketed at name) = is_formed_name name

abbrev pub is_bracketed : Input → Bool
is_bracketed (input.Plain name) = false
is_bracketed (input.Bracketed at name) = true

-- the number of inputs fits the check: ENC has two
abbrev pub has_its_inputs : DistanceKind → Option Input → Bool
has_its_inputs distance_kind.Internal second = true
has_its_inputs distance_kind.External second = true
has_its_inputs distance_kind.Enclosure second = is_some second

-- the check looks between or inside the polygons of one layer: EXT with one input
abbrev pub is_external_of_one : DistanceKind → Option Input → Bool
is_external_of_one distance_kind.Internal second = false
is_external_of_one distance_kind.External second = not (is_some second)
is_external_of_one distance_kind.Enclosure second = false

-- at most one input is bracketed, and then REGION doesn't stand
abbrev pub brackets_fit : Distance → Bool
brackets_fit distance =
    not (is_bracketed distance.first && option_map_or is_bracketed distance.second false)
    && not ((is_bracketed distance.first || option_map_or is_bracketed distance.second false) && distance.options.region)

abbrev pub is_formed_distance : Distance → Bool
is_formed_distance distance =
    is_formed_input distance.first && option_map_or is_formed_input distance.second true && is_formed_bound distance.bound
    && option_map_or is_formed_value distance.options.abut true
    && has_its_inputs distance.kind distance.second && brackets_fit distance
    && (not (is_some distance.options.gap) || is_external_of_one distance.kind distance.second)

abbrev pub depth_of_distance : Distance → ℕ
depth_of_distance distance = max (depth_of_bound distance.bound) (option_map_or depth_of_value distance.options.abut 0)

-- ---- Layers

abbrev pub is_formed_prefix : Prefix-F Bool Bool Bool Bool Bool → Bool
is_formed_prefix (Prefix-F.Copy term) = term
is_formed_prefix (Prefix-F.Rectangle term) = term
is_formed_prefix (Prefix-F.Area term bounds) = term && is_formed_limits bounds
is_formed_prefix (Prefix-F.Length term bounds) = term && is_formed_limits bounds
is_formed_prefix (Prefix-F.Size term value turn) = term && is_formed_value value
is_formed_prefix (Prefix-F.Angle term value) = term && is_formed_value value
is_formed_prefix (Prefix-F.Expand term side value) = term && is_formed_value value

abbrev pub is_formed_primary : Primary-F Bool Bool Bool Bool Bool → Bool
is_formed_primary (Primary-F.Term term) = term
is_formed_primary (Primary-F.Prefix at prefixed) = prefixed
is_formed_primary (Primary-F.Distance at distance) = is_formed_distance distance

abbrev pub is_formed_term : Term-F Bool Bool Bool Bool Bool → Bool
is_formed_term (Term-F.Name name) = is_formed_name name
is_formed_term (Term-F.Bracketed at layer) = layer

abbrev pub is_formed_layer : Layer → Bool
is_formed_layer =
    fold-Layer Bool Bool Bool Bool Bool is_formed_prefix is_formed_primary is_formed_term
    (λ layer. layer.first && all_hold layer.more) (λ operation. operation.right)

abbrev pub depth_of_prefix : Prefix-F ℕ ℕ ℕ ℕ ℕ → ℕ
depth_of_prefix (Prefix-F.Copy term) = term
depth_of_prefix (Prefix-F.Rectangle term) = term
depth_of_prefix (Prefix-F.Area term bounds) = max term (depth_of_limits bounds)
depth_of_prefix (Prefix-F.Length term bounds) = max term (depth_of_limits bounds)
depth_of_prefix (Prefix-F.Size term value turn) = max term (depth_of_value value)
depth_of_prefix (Prefix-F.Angle term value) = max term (depth_of_value value)
depth_of_prefix (Prefix-F.Expand term side value) = max term (depth_of_value value)

abbrev pub depth_of_primary : Primary-F ℕ ℕ ℕ ℕ ℕ → ℕ
depth_of_primary (Primary-F.Term term) = term
depth_of_primary (Primary-F.Prefix at prefixed) = prefixed
depth_of_primary (Primary-F.Distance at distance) = depth_of_distance distance

abbrev pub depth_of_term : Term-F ℕ ℕ ℕ ℕ ℕ → ℕ
depth_of_term (Term-F.Name name) = 0
depth_of_term (Term-F.Bracketed at layer) = suc layer

-- how many round brackets stand inside one another, those of values with those of layers
abbrev pub depth_of_layer : Layer → ℕ
depth_of_layer =
    fold-Layer ℕ ℕ ℕ ℕ ℕ depth_of_prefix depth_of_primary depth_of_term
    (λ layer. max layer.first (deepest layer.more)) (λ operation. operation.right)

-- ---- Statements

abbrev pub is_some_list : {A : Type 0} → List A → Bool
is_some_list [] = false
is_some_list (first ∷ more) = true

abbrev pub is_formed_map : LayerMap → Bool
is_formed_map row = is_formed_number row.layer && is_formed_number row.kind_number && is_formed_number row.target

abbrev pub is_formed_item : Item → Bool
is_formed_item (item.Note text) = is_note text
is_formed_item (item.Definition name layer) = is_formed_name name && is_formed_layer layer
is_formed_item (item.Output layer) = is_formed_layer layer

abbrev pub is_formed_statement : Statement → Bool
is_formed_statement (statement.LayoutSystem at) = true
is_formed_statement (statement.LayoutPath at file) = is_formed_file file
is_formed_statement (statement.LayoutPrimary at file) = is_formed_file file
is_formed_statement (statement.ResultsDatabase at file) = is_formed_file file
is_formed_statement (statement.SummaryReport at file) = is_formed_file file
is_formed_statement (statement.MaximumResults at value) = option_map_or is_formed_value value true
is_formed_statement (statement.SelectCheck at names) = is_some_list names && list_all is_formed_name names
is_formed_statement (statement.UnselectCheck at names) = is_some_list names && list_all is_formed_name names
is_formed_statement (statement.Precision at value) = is_formed_value value
is_formed_statement (statement.Title at file) = is_formed_file file
is_formed_statement (statement.Variable at name value) = is_formed_name name && is_formed_value value
is_formed_statement (statement.Layer at name numbers) = is_formed_name name && is_some_list numbers && list_all is_formed_number numbers
is_formed_statement (statement.LayerMap at row) = is_formed_map row
is_formed_statement (statement.Definition name layer) = is_formed_name name && is_formed_layer layer
is_formed_statement (statement.Check name items) = is_formed_name name && list_all is_formed_item items

abbrev pub depth_of_item : Item → ℕ
depth_of_item (item.Note text) = 0
depth_of_item (item.Definition name layer) = depth_of_layer layer
depth_of_item (item.Output layer) = depth_of_layer layer

abbrev pub depth_of_statement : Statement → ℕ
depth_of_statement (statement.MaximumResults at value) = option_map_or depth_of_value value 0
depth_of_statement (statement.Precision at value) = depth_of_value value
depth_of_statement (statement.Variable at name value) = depth_of_value value
depth_of_statement (statement.Definition name layer) = depth_of_layer layer
depth_of_statement (statement.Check name items) = deepest (map depth_of_item items)
depth_of_statement _ = 0

-- of how many round brackets inside one another a deck has at most
abbrev pub most_nested : ℕ
most_nested = 64

pub record IsWellFormed (deck : Deck) : Type 0 where
  pub statements : list_all is_formed_statement deck.statements ≡ true
  pub nesting : deepest (map depth_of_statement deck.statements) ≤ most_nested
