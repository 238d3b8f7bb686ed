-- The canonical text of values, and of what compares with them.
use Rattle.std.specs.Prelude.{ℕ, List, [], ◌∷◌, ◌++◌, Option, Some, None, codes}
use Rattle.std.specs.List.{concat}
use Rattle.std.specs.Option.{option_map_or}
use Rattle.deck_tree.specs.declared.number.Number.{Number}
use Rattle.deck_tree.specs.declared.value.AddSign.{AddSign}
use Rattle.deck_tree.specs.declared.value.AddSign.TheVariants as add_sign
use Rattle.deck_tree.specs.declared.value.ProductSign.{ProductSign}
use Rattle.deck_tree.specs.declared.value.ProductSign.TheVariants as product_sign
use Rattle.deck_tree.specs.declared.value.Atom.TheOpen.{Atom-F, Addend-F, Exponent-F, Factor-F, Power-F, Product-F, Value-F}
use Rattle.deck_tree.specs.declared.value.Atom.TheFolds.{fold-Atom, fold-Addend, fold-Exponent, fold-Factor, fold-Power, fold-Product, fold-Value}
use Rattle.deck_tree.specs.declared.value.Atom.{Atom}
use Rattle.deck_tree.specs.declared.value.Addend.{Addend}
use Rattle.deck_tree.specs.declared.value.Exponent.{Exponent}
use Rattle.deck_tree.specs.declared.value.Factor.{Factor}
use Rattle.deck_tree.specs.declared.value.Power.{Power}
use Rattle.deck_tree.specs.declared.value.Product.{Product}
use Rattle.deck_tree.specs.declared.value.Value.{Value}
use Rattle.deck_tree.specs.declared.limits.Below.{Below}
use Rattle.deck_tree.specs.declared.limits.Below.TheVariants as below
use Rattle.deck_tree.specs.declared.limits.Above.{Above}
use Rattle.deck_tree.specs.declared.limits.Above.TheVariants as above
use Rattle.deck_tree.specs.declared.limits.Bound.{Bound}
use Rattle.deck_tree.specs.declared.limits.Limits.{Limits}
use Rattle.deck_tree.specs.declared.limits.Limits.TheVariants as limits

abbrev pub Text : Type 0
Text = List ℕ

-- ---- Numbers

-- the point, and the digits behind it
abbrev pub fraction_text : List ℕ → Text
fraction_text [] = []
fraction_text (digit ∷ more) = codes "." ++ digit ∷ more

abbrev pub number_text : Number → Text
number_text number = number.whole ++ fraction_text number.fraction

-- ---- Values: one level each, with the text of each part in its place

-- nothing stands between a minus and what it belongs to
abbrev pub minus_text : Option ℕ → Text
minus_text None = []
minus_text (Some at) = codes "-"

abbrev pub atom_step : Atom-F Text Text Text Text Text Text Text → Text
atom_step (Atom-F.Number minus number) = minus_text minus ++ number_text number
atom_step (Atom-F.Name minus name) = minus_text minus ++ name.name
atom_step (Atom-F.Bracketed minus at value) = minus_text minus ++ (codes "(" ++ (value ++ codes ")"))

abbrev pub exponent_step : Exponent-F Text Text Text Text Text Text Text → Text
exponent_step exponent = codes " ^ " ++ exponent.atom

abbrev pub power_step : Power-F Text Text Text Text Text Text Text → Text
power_step power = power.base ++ option_map_or (λ exponent. exponent) power.exponent []

abbrev pub product_sign_text : ProductSign → Text
product_sign_text product_sign.Times = codes " * "
product_sign_text product_sign.Over = codes " / "
product_sign_text product_sign.Modulo = codes " % "

abbrev pub factor_step : Factor-F Text Text Text Text Text Text Text → Text
factor_step factor = product_sign_text factor.sign ++ factor.power

abbrev pub product_step : Product-F Text Text Text Text Text Text Text → Text
product_step product = product.first ++ concat product.more

abbrev pub add_sign_text : AddSign → Text
add_sign_text add_sign.Plus = codes " + "
add_sign_text add_sign.Minus = codes " - "

abbrev pub addend_step : Addend-F Text Text Text Text Text Text Text → Text
addend_step addend = add_sign_text addend.sign ++ addend.product

abbrev pub value_step : Value-F Text Text Text Text Text Text Text → Text
value_step value = value.first ++ concat value.more

abbrev pub atom_text : Atom → Text
atom_text = fold-Atom Text Text Text Text Text Text Text atom_step addend_step exponent_step factor_step power_step product_step value_step

abbrev pub addend_text : Addend → Text
addend_text = fold-Addend Text Text Text Text Text Text Text atom_step addend_step exponent_step factor_step power_step product_step value_step

abbrev pub exponent_text : Exponent → Text
exponent_text = fold-Exponent Text Text Text Text Text Text Text atom_step addend_step exponent_step factor_step power_step product_step value_step

abbrev pub factor_text : Factor → Text
factor_text = fold-Factor Text Text Text Text Text Text Text atom_step addend_step exponent_step factor_step power_step product_step value_step

abbrev pub power_text : Power → Text
power_text = fold-Power Text Text Text Text Text Text Text atom_step addend_step exponent_step factor_step power_step product_step value_step

abbrev pub product_text : Product → Text
product_text = fold-Product Text Text Text Text Text Text Text atom_step addend_step exponent_step factor_step power_step product_step value_step

abbrev pub value_text : Value → Text
value_text = fold-Value Text Text Text Text Text Text Text atom_step addend_step exponent_step factor_step power_step product_step value_step

-- ---- Bounds

abbrev pub below_text : Below → Text
below_text below.Less = codes " < "
below_text below.LessOrEqual = codes " <= "

abbrev pub above_text : Above → Text
above_text above.Greater = codes " > "
above_text above.GreaterOrEqual = codes " >= "

abbrev pub bound_text : Bound → Text
bound_text bound = below_text bound.sign ++ value_text bound.value

abbrev pub upper_text : Option Bound → Text
upper_text None = []
upper_text (Some bound) = bound_text bound

abbrev pub limits_text : Limits → Text
limits_text (limits.Below bound) = bound_text bound
limits_text (limits.Equal value) = codes " == " ++ value_text value
limits_text (limits.NotEqual value) = codes " != " ++ value_text value
limits_text (limits.Above sign value bound) = above_text sign ++ (value_text value ++ upper_text bound)
