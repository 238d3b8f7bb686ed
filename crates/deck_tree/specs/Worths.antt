-- What a value comes to: an exact fraction, or the faults for which it has none. A part of a value has a fault where the parts
-- below it come to fractions and it doesn't: it is a number out of range, a name that isn't known, a division by 0, an exponent
-- that isn't allowed, or a result that doesn't fit. All compute.
--
--     1 / 0 + x / 0, where x isn't known: a division by 0 at the first sign, and an unknown name at x;
--     the second division has no fault, since x comes to nothing
use Rattle.std.specs.Prelude.{◌≡◌, All, Contains, false, ℕ, ◌+◌, ◌-◌, ◌*◌, ◌^◌, ◌==◌, nat_lt, nat_le, ◌&&◌, ◌||◌, if◌then◌else◌, Bool, ℤ, pos, negsuc, neg_ℤ, ◌+ℤ◌, ◌-ℤ◌, ◌*ℤ◌, unsigned_abs, List, [], ◌∷◌, ◌++◌, length, Option, Some, None, Result, Ok, Err}
use Rattle.std.specs.Int.{int_pow}
use Rattle.std.specs.Option.{option_map_or}
use Rattle.drc_num.specs.Fractions.{Fraction, raised, whole_part, inverse_num, fraction_of}
use Rattle.deck_tree.specs.Names.{Names}
use Rattle.deck_tree.specs.declared.number.Number.{Number}
use Rattle.deck_tree.specs.declared.value.AddSign.{AddSign}
use Rattle.deck_tree.specs.declared.value.AddSign.TheVariants as add_sign
use Rattle.deck_tree.specs.declared.value.ProductSign.{ProductSign}
use Rattle.deck_tree.specs.declared.value.ProductSign.TheVariants as product_sign
use Rattle.deck_tree.specs.declared.value.Atom.TheOpen.{Atom-F, Addend-F, Exponent-F, Factor-F, Power-F, Product-F, Value-F}
use Rattle.deck_tree.specs.declared.value.Atom.TheFolds.{fold-Atom, fold-Power, fold-Product, fold-Value}
use Rattle.deck_tree.specs.declared.value.Atom.{Atom}
use Rattle.deck_tree.specs.declared.value.Power.{Power}
use Rattle.deck_tree.specs.declared.value.Product.{Product}
use Rattle.deck_tree.specs.declared.value.Value.{Value}
use Rattle.deck_tree.specs.declared.value_fault.ValueFault.{ValueFault}
use Rattle.deck_tree.specs.declared.value_fault.ValueFault.TheVariants as fault

-- A fraction, or the faults of a value, from left to right. Where it rests on a name that comes to nothing, these may be none.
abbrev pub Worth : Type 0
Worth = Result Fraction (List ValueFault)

-- ---- Numbers

-- the number that the digits spell behind a number
abbrev pub decimal_from : ℕ → List ℕ → ℕ
decimal_from n [] = n
decimal_from n (digit ∷ more) = decimal_from (n * 10 + (digit - 48)) more

abbrev pub decimal : List ℕ → ℕ
decimal digits = decimal_from 0 digits

-- a number has at most so many digits on either side of the point
abbrev pub most_digits : ℕ
most_digits = 18

-- the fraction that is the number as it is written
abbrev pub spelled_fraction : Number → Option Fraction
spelled_fraction number = fraction_of (pos (decimal (number.whole ++ number.fraction))) (10 ^ length number.fraction)

-- what fits, or a value out of range at the offset
abbrev pub in_range : ℕ → Option Fraction → Result Fraction ValueFault
in_range at None = Err (fault.ValueRange at)
in_range at (Some q) = Ok q

abbrev pub number_value : Number → Option Fraction
number_value number =
    if nat_le (length number.whole) most_digits && nat_le (length number.fraction) most_digits then spelled_fraction number else None

-- ---- One operation on fractions, at its sign

abbrev pub sum : (at : ℕ) (a b : Fraction) → Result Fraction ValueFault
sum at a b = in_range at (fraction_of (raised a b +ℤ raised b a) (a.den * b.den))

abbrev pub difference : (at : ℕ) (a b : Fraction) → Result Fraction ValueFault
difference at a b = in_range at (fraction_of (raised a b -ℤ raised b a) (a.den * b.den))

abbrev pub is_zero : Fraction → Bool
is_zero q = unsigned_abs q.num == 0

abbrev pub multiple : (at : ℕ) (a b : Fraction) → Result Fraction ValueFault
multiple at a b = in_range at (fraction_of (a.num *ℤ b.num) (a.den * b.den))

abbrev pub quotient : (at : ℕ) (a b : Fraction) → Result Fraction ValueFault
quotient at a b =
    if is_zero b then Err (fault.DivideByZero at) else in_range at (fraction_of (a.num *ℤ inverse_num b) (a.den * unsigned_abs b.num))

-- what is left of a when b is taken as often as it goes, rounded toward 0
abbrev pub remainder : (at : ℕ) (a b : Fraction) → Result Fraction ValueFault
remainder at a b =
    if is_zero b then Err (fault.DivideByZero at) else in_range at (fraction_of (raised a b -ℤ whole_part a b *ℤ raised b a) (a.den * b.den))

-- a whole exponent from 0 to 255
abbrev pub exponent_of : Fraction → Option ℕ
exponent_of q = if q.den == 1 then whole q.num else None
  where
    whole : ℤ → Option ℕ
    whole (pos n) = if nat_le n 255 then Some n else None
    whole (negsuc n) = None

abbrev pub power : (at : ℕ) (a b : Fraction) → Result Fraction ValueFault
power at a b = option_map_or (λ n. in_range at (fraction_of (int_pow a.num n) (a.den ^ n))) (exponent_of b) (Err (fault.ValueRange at))

abbrev pub negative : (at : ℕ) (a : Fraction) → Result Fraction ValueFault
negative at a = in_range at (fraction_of (neg_ℤ a.num) a.den)

abbrev pub by_add_sign : AddSign → (at : ℕ) (a b : Fraction) → Result Fraction ValueFault
by_add_sign add_sign.Plus = sum
by_add_sign add_sign.Minus = difference

abbrev pub by_product_sign : ProductSign → (at : ℕ) (a b : Fraction) → Result Fraction ValueFault
by_product_sign product_sign.Times = multiple
by_product_sign product_sign.Over = quotient
by_product_sign product_sign.Modulo = remainder

-- ---- Parts joined

-- an operation's answer, alone
abbrev pub alone : Result Fraction ValueFault → Worth
alone (Ok q) = Ok q
alone (Err f) = Err (f ∷ [])

-- two parts and the operation that joins them, which has an answer only where both come to fractions
abbrev pub joined : (Fraction → Fraction → Result Fraction ValueFault) → Worth → Worth → Worth
joined op (Ok a) (Ok b) = alone (op a b)
joined op (Ok a) (Err faults) = Err faults
joined op (Err faults) (Ok b) = Err faults
joined op (Err faults) (Err more) = Err (faults ++ more)

-- a part behind a minus, where there is one
abbrev pub with_minus : Option ℕ → Worth → Worth
with_minus None part = part
with_minus (Some at) (Ok q) = alone (negative at q)
with_minus (Some at) (Err faults) = Err faults

abbrev pub number_worth : Number → Worth
number_worth number = alone (in_range number.at (number_value number))

-- a name that is known, or not, at an offset
abbrev pub name_worth : (at : ℕ) → Option (Option Fraction) → Worth
name_worth at None = Err (fault.UndefinedName at ∷ [])
name_worth at (Some None) = Err []
name_worth at (Some (Some q)) = Ok q

-- ---- Values: one level each, with what each part comes to in its place

-- the parts of a chain behind its first: an operation, and what stands on its right
pub record Step : Type 0 where
  pub by : Fraction → Fraction → Result Fraction ValueFault
  pub right : Worth

-- a chain from left to right
abbrev pub chain : Worth → List Step → Worth
chain left [] = left
chain left (step ∷ more) = chain (joined step.by left step.right) more

abbrev pub atom_level : Names → Atom-F Worth Step Step Step Worth Worth Worth → Worth
atom_level names (Atom-F.Number minus number) = with_minus minus (number_worth number)
atom_level names (Atom-F.Name minus name) = with_minus minus (name_worth name.at (names name.name))
atom_level names (Atom-F.Bracketed minus at value) = with_minus minus value

abbrev pub exponent_level : Exponent-F Worth Step Step Step Worth Worth Worth → Step
exponent_level exponent = record { by = power exponent.at; right = exponent.atom }

abbrev pub factor_level : Factor-F Worth Step Step Step Worth Worth Worth → Step
factor_level factor = record { by = by_product_sign factor.sign factor.at; right = factor.power }

abbrev pub addend_level : Addend-F Worth Step Step Step Worth Worth Worth → Step
addend_level addend = record { by = by_add_sign addend.sign addend.at; right = addend.product }

abbrev pub power_level : Power-F Worth Step Step Step Worth Worth Worth → Worth
power_level power = option_map_or (λ step. joined step.by power.base step.right) power.exponent power.base

abbrev pub product_level : Product-F Worth Step Step Step Worth Worth Worth → Worth
product_level product = chain product.first product.more

abbrev pub value_level : Value-F Worth Step Step Step Worth Worth Worth → Worth
value_level value = chain value.first value.more

abbrev pub atom_worth : Names → Atom → Worth
atom_worth names = fold-Atom Worth Step Step Step Worth Worth Worth (atom_level names) addend_level exponent_level factor_level power_level product_level value_level

abbrev pub power_worth : Names → Power → Worth
power_worth names = fold-Power Worth Step Step Step Worth Worth Worth (atom_level names) addend_level exponent_level factor_level power_level product_level value_level

abbrev pub product_worth : Names → Product → Worth
product_worth names = fold-Product Worth Step Step Step Worth Worth Worth (atom_level names) addend_level exponent_level factor_level power_level product_level value_level

-- what a value comes to, by what is known of names
abbrev pub value_worth : Names → Value → Worth
value_worth names = fold-Value Worth Step Step Step Worth Worth Worth (atom_level names) addend_level exponent_level factor_level power_level product_level value_level

-- ---- The first fault

abbrev pub fault_place : ValueFault → ℕ
fault_place (fault.UndefinedName at) = at
fault_place (fault.DivideByZero at) = at
fault_place (fault.ValueRange at) = at

-- the number of the reason for which a deck with the fault is refused
abbrev pub fault_number : ValueFault → ℕ
fault_number (fault.UndefinedName at) = 9
fault_number (fault.DivideByZero at) = 12
fault_number (fault.ValueRange at) = 5

-- at a lower offset, or at the same one and with a lower number
abbrev pub is_before : ValueFault → ValueFault → Bool
is_before f g = nat_lt (fault_place f) (fault_place g) || ((fault_place f == fault_place g) && nat_lt (fault_number f) (fault_number g))

-- the first of two, where there are some
abbrev pub first_of_two : Option ValueFault → Option ValueFault → Option ValueFault
first_of_two None other = other
first_of_two (Some f) None = Some f
first_of_two (Some f) (Some g) = if is_before g f then Some g else Some f

abbrev pub first_fault : List ValueFault → Option ValueFault
first_fault [] = None
first_fault (f ∷ more) = first_of_two (Some f) (first_fault more)

-- a fraction, or the first fault
abbrev pub answer : Worth → Result Fraction (Option ValueFault)
answer (Ok q) = Ok q
answer (Err faults) = Err (first_fault faults)

-- one of the faults, before which there is none
pub record IsFirstFault (f : ValueFault) (faults : List ValueFault) : Type 0 where
  pub one : Contains faults f
  pub first : All (λ g. is_before g f ≡ false) faults
