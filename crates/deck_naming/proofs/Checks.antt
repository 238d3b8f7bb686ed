-- There are as many checks by their items as by their names.
use Rattle.std.proofs.Common.{◌≡◌, List, [], ◌∷◌, length, refl, arith}
use Rattle.std.proofs.lemmas.List.{length-append}
use Rattle.std.specs.List.{flat_map}
use Rattle.deck_tree.specs.declared.statement.Statement.{Statement}
use Rattle.deck_tree.specs.declared.statement.Statement.TheVariants as statement
use Rattle.deck_counts.specs.Outputs.{statement_checks}
use Rattle.deck_naming.specs.Undefined.{checked}

of_one : (one : Statement) → length (checked one) ≡ length (statement_checks one)
of_one (statement.Check name items) = refl
of_one other = refl

pub as_many : (statements : List Statement) → length (flat_map checked statements) ≡ length (flat_map statement_checks statements)
as_many [] = refl
as_many (one ∷ more) =
    let first = of_one one in
    let rest = as_many more in
    let a = length-append (checked one) (flat_map checked more) in
    let b = length-append (statement_checks one) (flat_map statement_checks more) in
    omega (arith, first, rest, a, b)
