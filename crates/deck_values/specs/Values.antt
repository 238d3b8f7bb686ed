-- The values of a deck in the order of its text, each with the place from where its names are seen and with what the place
-- wants at which it stands.
use Rattle.std.specs.Prelude.{ℕ, List, [], ◌∷◌, ◌++◌, map, Option, Some, None}
use Rattle.std.specs.Option.{option_map_or}
use Rattle.std.specs.List.{flat_map}
use Rattle.deck_tree.specs.declared.value.Value.{Value}
use Rattle.deck_tree.specs.declared.limits.Bound.{Bound}
use Rattle.deck_tree.specs.declared.limits.Limits.{Limits}
use Rattle.deck_tree.specs.declared.limits.Limits.TheVariants as limits
use Rattle.deck_tree.specs.declared.distance.Distance.{Distance}
use Rattle.deck_tree.specs.declared.layer.Turn.{Turn}
use Rattle.deck_tree.specs.declared.layer.Prefix.{Prefix}
use Rattle.deck_tree.specs.declared.layer.Prefix.TheOpen.{Prefix-F, Primary-F, Term-F, Layer-F, Operation-F}
use Rattle.deck_tree.specs.declared.layer.Prefix.TheFolds.{fold-Prefix, fold-Primary, fold-Term, fold-Layer, fold-Operation}
use Rattle.deck_tree.specs.declared.layer.Primary.{Primary}
use Rattle.deck_tree.specs.declared.layer.Term.{Term}
use Rattle.deck_tree.specs.declared.layer.Layer.{Layer}
use Rattle.deck_tree.specs.declared.layer.Operation.{Operation}
use Rattle.deck_tree.specs.declared.statement.Item.{Item}
use Rattle.deck_tree.specs.declared.statement.Item.TheVariants as item
use Rattle.deck_tree.specs.declared.statement.Statement.{Statement}
use Rattle.deck_tree.specs.declared.statement.Statement.TheVariants as statement
use Rattle.deck_tree.specs.declared.deck.Deck.{Deck}
use Rattle.deck_units.specs.declared.place.ValuePlace.{ValuePlace}
use Rattle.deck_units.specs.declared.place.ValuePlace.TheVariants as place
use Rattle.deck_names.specs.declared.definition.Scope.{Scope}
use Rattle.deck_names.specs.declared.definition.Scope.TheVariants as scope
use Rattle.deck_definitions.specs.Definitions.{checks_behind}
use Rattle.deck_values.specs.declared.placed.Wanted.{Wanted}
use Rattle.deck_values.specs.declared.placed.Wanted.TheVariants as wanted
use Rattle.deck_values.specs.declared.placed.PlacedValue.{PlacedValue}

-- a value, and what its place wants
pub record Want : Type 0 where
  pub value : Value
  pub wanted : Wanted

abbrev pub Wants : Type 0
Wants = List Want

abbrev pub one : Wanted → Value → Wants
one wanted value = record { value = value; wanted = wanted } ∷ []

-- ---- Bounds, and checks of distances

abbrev pub bound_wants : Wanted → Bound → Wants
bound_wants wanted bound = one wanted bound.value

abbrev pub limits_wants : Wanted → Limits → Wants
limits_wants wanted (limits.Below bound) = bound_wants wanted bound
limits_wants wanted (limits.Equal value) = one wanted value
limits_wants wanted (limits.NotEqual value) = one wanted value
limits_wants wanted (limits.Above sign value bound) = one wanted value ++ option_map_or (bound_wants wanted) bound []

-- that of the bound, and that of ABUT
abbrev pub distance_wants : Distance → Wants
distance_wants distance =
    bound_wants (wanted.Range place.Distance) distance.bound
    ++ option_map_or (one (wanted.Range place.Abut)) distance.options.abut []

-- ---- Layers: one level each, with the values of each part

-- the place of the value of SIZE, which takes no negative one where it turns round
abbrev pub size_place : Option Turn → ValuePlace
size_place None = place.Size
size_place (Some turn) = place.TurnedSize

abbrev pub prefix_step : Prefix-F Wants Wants Wants Wants Wants → Wants
prefix_step (Prefix-F.Copy term) = term
prefix_step (Prefix-F.Rectangle term) = term
prefix_step (Prefix-F.Area term bounds) = term ++ limits_wants (wanted.Range place.Area) bounds
prefix_step (Prefix-F.Length term bounds) = term ++ limits_wants (wanted.Range place.Length) bounds
prefix_step (Prefix-F.Size term value turn) = term ++ one (wanted.Range (size_place turn)) value
prefix_step (Prefix-F.Angle term value) = term ++ one wanted.RightAngle value
prefix_step (Prefix-F.Expand term side value) = term ++ one (wanted.Range place.Distance) value

abbrev pub primary_step : Primary-F Wants Wants Wants Wants Wants → Wants
primary_step (Primary-F.Term term) = term
primary_step (Primary-F.Prefix at prefix) = prefix
primary_step (Primary-F.Distance at distance) = distance_wants distance

abbrev pub term_step : Term-F Wants Wants Wants Wants Wants → Wants
term_step (Term-F.Name name) = []
term_step (Term-F.Bracketed at layer) = layer

-- the values of all parts
abbrev pub joined : List Wants → Wants
joined = flat_map (λ wants. wants)

abbrev pub layer_step : Layer-F Wants Wants Wants Wants Wants → Wants
layer_step layer = layer.first ++ joined layer.more

abbrev pub operation_step : Operation-F Wants Wants Wants Wants Wants → Wants
operation_step operation = operation.right

abbrev pub prefix_wants : Prefix → Wants
prefix_wants = fold-Prefix Wants Wants Wants Wants Wants prefix_step primary_step term_step layer_step operation_step

abbrev pub primary_wants : Primary → Wants
primary_wants = fold-Primary Wants Wants Wants Wants Wants prefix_step primary_step term_step layer_step operation_step

abbrev pub term_wants : Term → Wants
term_wants = fold-Term Wants Wants Wants Wants Wants prefix_step primary_step term_step layer_step operation_step

abbrev pub operation_wants : Operation → Wants
operation_wants = fold-Operation Wants Wants Wants Wants Wants prefix_step primary_step term_step layer_step operation_step

abbrev pub layer_wants : Layer → Wants
layer_wants = fold-Layer Wants Wants Wants Wants Wants prefix_step primary_step term_step layer_step operation_step

-- ---- Statements

abbrev pub item_wants : Item → Wants
item_wants (item.Note text) = []
item_wants (item.Definition name layer) = layer_wants layer
item_wants (item.Output layer) = layer_wants layer

abbrev pub statement_wants : Statement → Wants
statement_wants (statement.MaximumResults at most) = option_map_or (one (wanted.Range place.MaximumResults)) most []
statement_wants (statement.Precision at value) = one (wanted.Range place.Precision) value
statement_wants (statement.Variable at name value) = one wanted.Anything value
statement_wants (statement.Definition name layer) = layer_wants layer
statement_wants (statement.Check name items) = flat_map item_wants items
statement_wants other = []

-- from where the names in a statement are seen that has so many checks before it
abbrev pub statement_scope : ℕ → Statement → Scope
statement_scope checks (statement.Check name items) = scope.Check checks
statement_scope checks other = scope.Everywhere

-- a value that stands in a deck: from where its names are seen, and what its place wants
pub record Standing : Type 0 where
  pub value : Value
  pub scope : Scope
  pub wanted : Wanted

abbrev pub at_place : Scope → Want → Standing
at_place from want = record { value = want.value; scope = from; wanted = want.wanted }

abbrev pub seen_from : Scope → Wants → List Standing
seen_from from = map (at_place from)

abbrev pub values_from : ℕ → List Statement → List Standing
values_from checks [] = []
values_from checks (one ∷ more) =
    seen_from (statement_scope checks one) (statement_wants one) ++ values_from (checks_behind checks one) more

abbrev pub values_of : Deck → List Standing
values_of deck = values_from 0 deck.statements

-- what is kept of a value
abbrev pub standing_of : PlacedValue → Standing
standing_of v = record { value = v.value.now; scope = v.scope; wanted = v.wanted }

abbrev pub shown : List PlacedValue → List Standing
shown = map standing_of
