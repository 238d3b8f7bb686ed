-- The names of each value are seen from a place of its deck.
use Rattle.std.proofs.Common.{◌≡◌, ℕ, ◌+◌, List, [], ◌∷◌, ◌++◌, length, refl, subst, arith}
use Rattle.std.proofs.lemmas.List.Elements.{All-nil, All-append, All-map}
use Rattle.std.specs.List.{All, flat_map}
use Rattle.deck_tree.specs.declared.statement.Statement.{Statement}
use Rattle.deck_tree.specs.declared.statement.Statement.TheVariants as statement
use Rattle.deck_tree.specs.declared.deck.Deck.{Deck}
use Rattle.deck_names.specs.Definitions.{IsPlace}
use Rattle.deck_definitions.specs.Definitions.{checks_behind}
use Rattle.deck_counts.specs.Outputs.{statement_checks, checks_of}
use Rattle.deck_values.specs.Values.{Standing, at_place, seen_from, statement_scope, statement_wants, values_from, values_of}

-- so many checks are there of these and those that come
abbrev all_checks : ℕ → List Statement → ℕ
all_checks checks statements = checks + length (flat_map statement_checks statements)

behind_one : (checks : ℕ) (one : Statement) (more : List ℕ) → checks_behind checks one + length more ≡ checks + length (statement_checks one ++ more)
behind_one checks (statement.Check name items) more = omega arith
behind_one checks other more = refl

own_place : (checks : ℕ) (one : Statement) (more : List ℕ) → IsPlace (checks + length (statement_checks one ++ more)) (statement_scope checks one)
own_place checks (statement.Check name items) more = omega arith
own_place checks other more = tt

abbrev IsIn : ℕ → Standing → Type 0
IsIn checks s = IsPlace checks s.scope

places_from : (checks : ℕ) (statements : List Statement) → All (IsIn (all_checks checks statements)) (values_from checks statements)
places_from checks [] = All-nil (IsIn (all_checks checks []))
places_from checks (one ∷ more) =
    let rest = flat_map statement_checks more in
    let all = checks + length (statement_checks one ++ rest) in
    let behind = values_from (checks_behind checks one) more in
    All-append (IsIn all) (seen_from (statement_scope checks one) (statement_wants one)) behind
    (All-map (IsIn all) (at_place (statement_scope checks one)) (statement_wants one) (λ k d l. own_place checks one rest))
    (subst (λ n. All (IsIn n) behind) (behind_one checks one rest) (places_from (checks_behind checks one) more))

pub places : (deck : Deck) → All (IsIn (length (checks_of deck))) (values_of deck)
places deck = subst (λ n. All (IsIn n) (values_of deck)) (omega arith) (places_from 0 deck.statements)
