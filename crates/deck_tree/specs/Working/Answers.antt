-- Values by their answers: a fraction or the first fault. What is joined answers by the answers of its parts.
use Rattle.std.specs.Prelude.{ℕ, List, [], ◌∷◌, Option, Some, None, Result, Ok, Err}
use Rattle.std.specs.Option.{option_map_or}
use Rattle.drc_num.specs.Fractions.{Fraction}
use Rattle.deck_tree.specs.Names.{Names}
use Rattle.deck_tree.specs.Worths.{Worth, Step, negative, first_of_two, answer, atom_level, addend_level, exponent_level, factor_level, power_level, product_level, value_level}
use Rattle.deck_tree.specs.declared.value_fault.ValueFault.{ValueFault}
use Rattle.deck_tree.specs.declared.value.Atom.TheFolds.{fold-Addend, fold-Exponent, fold-Factor}
use Rattle.deck_tree.specs.declared.value.Addend.{Addend}
use Rattle.deck_tree.specs.declared.value.Exponent.{Exponent}
use Rattle.deck_tree.specs.declared.value.Factor.{Factor}

abbrev pub Answer : Type 0
Answer = Result Fraction (Option ValueFault)

-- one operation's answer
abbrev pub told : Result Fraction ValueFault → Answer
told (Ok q) = Ok q
told (Err f) = Err (Some f)

abbrev pub both : (Fraction → Fraction → Result Fraction ValueFault) → Answer → Answer → Answer
both op (Ok a) (Ok b) = told (op a b)
both op (Ok a) (Err f) = Err f
both op (Err f) (Ok b) = Err f
both op (Err f) (Err g) = Err (first_of_two f g)

-- both fractions, or the first fault of either side
abbrev pub parts : Answer → Answer → Result (Fraction × Fraction) (Option ValueFault)
parts (Ok a) (Ok b) = Ok (a, b)
parts (Ok a) (Err f) = Err f
parts (Err f) (Ok b) = Err f
parts (Err f) (Err g) = Err (first_of_two f g)

abbrev pub behind_minus : Option ℕ → Answer → Answer
behind_minus None part = part
behind_minus (Some at) (Ok q) = told (negative at q)
behind_minus (Some at) (Err f) = Err f

abbrev pub chain_answer : Answer → List Step → Answer
chain_answer left [] = left
chain_answer left (step ∷ more) = chain_answer (both step.by left (answer step.right)) more

-- the parts of chains as steps
abbrev pub addend_step : Names → Addend → Step
addend_step names = fold-Addend Worth Step Step Step Worth Worth Worth (atom_level names) addend_level exponent_level factor_level power_level product_level value_level

abbrev pub exponent_step : Names → Exponent → Step
exponent_step names = fold-Exponent Worth Step Step Step Worth Worth Worth (atom_level names) addend_level exponent_level factor_level power_level product_level value_level

abbrev pub factor_step : Names → Factor → Step
factor_step names = fold-Factor Worth Step Step Step Worth Worth Worth (atom_level names) addend_level exponent_level factor_level power_level product_level value_level
