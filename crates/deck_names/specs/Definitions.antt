-- The definitions of a deck, in their order, and for which of them a name stands.
use Rattle.std.specs.Prelude.{◌≡◌, ℕ, ◌+◌, ◌<◌, Bool, true, false, ◌&&◌, nat_eq, List, [], ◌∷◌, ◌++◌, Option, Some, slice_get}
use Rattle.std.specs.Cmp.Lexicographic.{pointwise}
use Rattle.std.specs.List.{position_from}
use Rattle.std.specs.Borrow.{Bor}
use Rattle.deck_names.specs.declared.definition.Definition.{Definition}
use Rattle.deck_names.specs.declared.definition.Scope.{Scope}
use Rattle.deck_names.specs.declared.definition.Scope.TheVariants as scope

-- what is known of a deck: how many checks were opened, and its definitions
pub record Known : Type 0 where
  pub checks : ℕ
  pub definitions : List Definition

abbrev pub no_names : Known
no_names = record { checks = 0; definitions = [] }

abbrev pub one_check_more : Known → Known
one_check_more known = record known { checks = known.checks + 1 }

abbrev pub one_more : Known → Definition → Known
one_more known d = record known { definitions = known.definitions ++ d ∷ [] }

abbrev pub definition : Bor (List ℕ) → Scope → Definition
definition name place = record { name = name; scope = place }

-- a place of a deck with so many checks
abbrev pub IsPlace : ℕ → Scope → Type 0
IsPlace checks scope.Everywhere = Unit {0}
IsPlace checks (scope.Check k) = k < checks

-- whether what is defined in the first place is seen from the second: what is defined outside checks is seen everywhere,
-- and what is defined in a check in that check alone
abbrev pub is_seen : Scope → Scope → Bool
is_seen scope.Everywhere from = true
is_seen (scope.Check k) scope.Everywhere = false
is_seen (scope.Check k) (scope.Check j) = nat_eq k j

abbrev pub has_name : List ℕ → Definition → Bool
has_name q d = pointwise nat_eq q d.name.now

-- the number of the first definition that is seen from the place and has the name
abbrev pub stands_for : List Definition → Scope → List ℕ → Option ℕ
stands_for definitions from q =
    position_from (λ d. is_seen d.scope from && has_name q d) 0 definitions

-- two definitions have one name, and both are seen from some place
pub record Meet (a b : Definition) : Type 0 where
  pub same : has_name b.name.now a ≡ true
  pub from : Scope
  pub first_seen : is_seen a.scope from ≡ true
  pub second_seen : is_seen b.scope from ≡ true

-- an earlier definition meets it
abbrev pub IsRepetition : List Definition → Definition → Type 0
IsRepetition earlier d = (i : ℕ) × (e : Definition) × (slice_get earlier i ≡ Some e) × Meet e d
