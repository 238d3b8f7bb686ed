-- Working words of a value that is one number and nothing else: its digits.
use Rattle.std.specs.Prelude.{List, [], ◌∷◌, Option, Some, None}
use Rattle.deck_tree.specs.declared.number.Number.{Number}
use Rattle.deck_tree.specs.declared.value.Atom.{Atom}
use Rattle.deck_tree.specs.declared.value.Atom.TheOpen.{Atom-F, Addend-F, Exponent-F, Factor-F, Power-F, Product-F, Value-F}
use Rattle.deck_tree.specs.declared.value.Atom.TheFolds.{fold-Atom, fold-Power, fold-Product, fold-Value}
use Rattle.deck_tree.specs.declared.value.Power.{Power}
use Rattle.deck_tree.specs.declared.value.Product.{Product}
use Rattle.deck_tree.specs.declared.value.Value.{Value}
use Rattle.first_form.specs.FirstForm.{Decimal}

abbrev pub Lone : Type 0
Lone = Option Decimal

-- what is found, where nothing stands behind it
abbrev pub alone : {A B : Type 0} → List A → Option B → Option B
alone [] found = found
alone (a ∷ more) found = None

abbrev pub without : {A B : Type 0} → Option A → Option B → Option B
without None found = found
without (Some a) found = None

abbrev pub decimal_in : Number → Decimal
decimal_in number = record { whole = number.whole; fraction = number.fraction }

-- ---- one level each, with what is found in each part

abbrev pub atom_step : Atom-F Lone Lone Lone Lone Lone Lone Lone → Lone
atom_step (Atom-F.Number minus number) = without minus (Some (decimal_in number))
atom_step (Atom-F.Name minus name) = None
atom_step (Atom-F.Bracketed minus at value) = None

abbrev pub addend_step : Addend-F Lone Lone Lone Lone Lone Lone Lone → Lone
addend_step addend = None

abbrev pub exponent_step : Exponent-F Lone Lone Lone Lone Lone Lone Lone → Lone
exponent_step exponent = None

abbrev pub factor_step : Factor-F Lone Lone Lone Lone Lone Lone Lone → Lone
factor_step factor = None

abbrev pub power_step : Power-F Lone Lone Lone Lone Lone Lone Lone → Lone
power_step power = without power.exponent power.base

abbrev pub product_step : Product-F Lone Lone Lone Lone Lone Lone Lone → Lone
product_step product = alone product.more product.first

abbrev pub value_step : Value-F Lone Lone Lone Lone Lone Lone Lone → Lone
value_step value = alone value.more value.first

abbrev pub lone_atom : Atom → Lone
lone_atom =
    fold-Atom Lone Lone Lone Lone Lone Lone Lone
    atom_step addend_step exponent_step factor_step power_step product_step value_step

abbrev pub lone_power : Power → Lone
lone_power =
    fold-Power Lone Lone Lone Lone Lone Lone Lone
    atom_step addend_step exponent_step factor_step power_step product_step value_step

abbrev pub lone_product : Product → Lone
lone_product =
    fold-Product Lone Lone Lone Lone Lone Lone Lone
    atom_step addend_step exponent_step factor_step power_step product_step value_step

abbrev pub lone_value : Value → Lone
lone_value =
    fold-Value Lone Lone Lone Lone Lone Lone Lone
    atom_step addend_step exponent_step factor_step power_step product_step value_step
