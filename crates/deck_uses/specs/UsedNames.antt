-- The names that values and layers use, each with its place.
use Rattle.std.specs.Prelude.{List, [], ◌∷◌, ◌++◌, map, Option, Some, None}
use Rattle.std.specs.Option.{option_map_or}
use Rattle.std.specs.List.{flat_map}
use Rattle.std.specs.Borrow.{Bor}
use Rattle.deck_tree.specs.declared.name_at.NameAt.{NameAt}
use Rattle.deck_tree.specs.declared.value.Atom.{Atom}
use Rattle.deck_tree.specs.declared.value.Atom.TheOpen.{Atom-F, Addend-F, Exponent-F, Factor-F, Power-F, Product-F, Value-F}
use Rattle.deck_tree.specs.declared.value.Atom.TheFolds.{fold-Atom, fold-Addend, fold-Exponent, fold-Factor, fold-Power, fold-Product, fold-Value}
use Rattle.deck_tree.specs.declared.value.Addend.{Addend}
use Rattle.deck_tree.specs.declared.value.Exponent.{Exponent}
use Rattle.deck_tree.specs.declared.value.Factor.{Factor}
use Rattle.deck_tree.specs.declared.value.Power.{Power}
use Rattle.deck_tree.specs.declared.value.Product.{Product}
use Rattle.deck_tree.specs.declared.value.Value.{Value}
use Rattle.deck_tree.specs.declared.limits.Bound.{Bound}
use Rattle.deck_tree.specs.declared.limits.Limits.{Limits}
use Rattle.deck_tree.specs.declared.limits.Limits.TheVariants as limits
use Rattle.deck_tree.specs.declared.distance.Input.{Input}
use Rattle.deck_tree.specs.declared.distance.Input.TheVariants as input
use Rattle.deck_tree.specs.declared.distance.Distance.{Distance}
use Rattle.deck_tree.specs.declared.layer.Prefix.{Prefix}
use Rattle.deck_tree.specs.declared.layer.Prefix.TheOpen.{Prefix-F, Primary-F, Term-F, Layer-F, Operation-F}
use Rattle.deck_tree.specs.declared.layer.Prefix.TheFolds.{fold-Prefix, fold-Primary, fold-Term, fold-Layer, fold-Operation}
use Rattle.deck_tree.specs.declared.layer.Primary.{Primary}
use Rattle.deck_tree.specs.declared.layer.Term.{Term}
use Rattle.deck_tree.specs.declared.layer.Layer.{Layer}
use Rattle.deck_tree.specs.declared.layer.Operation.{Operation}

abbrev pub Used : Type 0
Used = List NameAt

-- the names of all parts
abbrev pub joined : List Used → Used
joined = flat_map (λ names. names)

-- what references to names show
abbrev pub shown : List (Bor NameAt) → Used
shown = map (λ name. name.now)

-- ---- Values: one level each, with the names of each part

abbrev pub atom_step : Atom-F Used Used Used Used Used Used Used → Used
atom_step (Atom-F.Number minus number) = []
atom_step (Atom-F.Name minus name) = name ∷ []
atom_step (Atom-F.Bracketed minus at value) = value

abbrev pub exponent_step : Exponent-F Used Used Used Used Used Used Used → Used
exponent_step exponent = exponent.atom

abbrev pub power_step : Power-F Used Used Used Used Used Used Used → Used
power_step power = power.base ++ option_map_or (λ exponent. exponent) power.exponent []

abbrev pub factor_step : Factor-F Used Used Used Used Used Used Used → Used
factor_step factor = factor.power

abbrev pub product_step : Product-F Used Used Used Used Used Used Used → Used
product_step product = product.first ++ joined product.more

abbrev pub addend_step : Addend-F Used Used Used Used Used Used Used → Used
addend_step addend = addend.product

abbrev pub value_step : Value-F Used Used Used Used Used Used Used → Used
value_step value = value.first ++ joined value.more

abbrev pub atom_names : Atom → Used
atom_names =
    fold-Atom Used Used Used Used Used Used Used
    atom_step addend_step exponent_step factor_step power_step product_step value_step

abbrev pub addend_names : Addend → Used
addend_names =
    fold-Addend Used Used Used Used Used Used Used
    atom_step addend_step exponent_step factor_step power_step product_step value_step

abbrev pub exponent_names : Exponent → Used
exponent_names =
    fold-Exponent Used Used Used Used Used Used Used
    atom_step addend_step exponent_step factor_step power_step product_step value_step

abbrev pub factor_names : Factor → Used
factor_names =
    fold-Factor Used Used Used Used Used Used Used
    atom_step addend_step exponent_step factor_step power_step product_step value_step

abbrev pub power_names : Power → Used
power_names =
    fold-Power Used Used Used Used Used Used Used
    atom_step addend_step exponent_step factor_step power_step product_step value_step

abbrev pub product_names : Product → Used
product_names =
    fold-Product Used Used Used Used Used Used Used
    atom_step addend_step exponent_step factor_step power_step product_step value_step

abbrev pub value_names : Value → Used
value_names =
    fold-Value Used Used Used Used Used Used Used
    atom_step addend_step exponent_step factor_step power_step product_step value_step

-- ---- What holds values

abbrev pub bound_names : Bound → Used
bound_names bound = value_names bound.value

abbrev pub limits_names : Limits → Used
limits_names (limits.Below bound) = bound_names bound
limits_names (limits.Equal value) = value_names value
limits_names (limits.NotEqual value) = value_names value
limits_names (limits.Above sign value bound) = value_names value ++ option_map_or bound_names bound []

abbrev pub input_name : Input → NameAt
input_name (input.Plain name) = name
input_name (input.Bracketed at name) = name

abbrev pub second_names : Option Input → Used
second_names None = []
second_names (Some second) = input_name second ∷ []

-- those of the inputs, of the bound, and of the value of ABUT
abbrev pub distance_names : Distance → Used
distance_names distance =
    input_name distance.first ∷ (second_names distance.second
    ++ (bound_names distance.bound ++ option_map_or value_names distance.options.abut []))

-- ---- Layers: one level each, with the names of each part

abbrev pub prefix_step : Prefix-F Used Used Used Used Used → Used
prefix_step (Prefix-F.Copy term) = term
prefix_step (Prefix-F.Rectangle term) = term
prefix_step (Prefix-F.Area term bounds) = term ++ limits_names bounds
prefix_step (Prefix-F.Length term bounds) = term ++ limits_names bounds
prefix_step (Prefix-F.Size term value turn) = term ++ value_names value
prefix_step (Prefix-F.Angle term value) = term ++ value_names value
prefix_step (Prefix-F.Expand term side value) = term ++ value_names value

abbrev pub primary_step : Primary-F Used Used Used Used Used → Used
primary_step (Primary-F.Term term) = term
primary_step (Primary-F.Prefix at prefix) = prefix
primary_step (Primary-F.Distance at distance) = distance_names distance

abbrev pub term_step : Term-F Used Used Used Used Used → Used
term_step (Term-F.Name name) = name ∷ []
term_step (Term-F.Bracketed at layer) = layer

abbrev pub layer_step : Layer-F Used Used Used Used Used → Used
layer_step layer = layer.first ++ joined layer.more

abbrev pub operation_step : Operation-F Used Used Used Used Used → Used
operation_step operation = operation.right

abbrev pub prefix_names : Prefix → Used
prefix_names = fold-Prefix Used Used Used Used Used prefix_step primary_step term_step layer_step operation_step

abbrev pub primary_names : Primary → Used
primary_names = fold-Primary Used Used Used Used Used prefix_step primary_step term_step layer_step operation_step

abbrev pub term_names : Term → Used
term_names = fold-Term Used Used Used Used Used prefix_step primary_step term_step layer_step operation_step

abbrev pub operation_names : Operation → Used
operation_names = fold-Operation Used Used Used Used Used prefix_step primary_step term_step layer_step operation_step

abbrev pub layer_names : Layer → Used
layer_names = fold-Layer Used Used Used Used Used prefix_step primary_step term_step layer_step operation_step
