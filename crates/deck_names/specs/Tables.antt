-- What the tables of names hold: under each name the number of the first definition that has it, of those that count.
use Rattle.std.specs.Prelude.{◌≡◌, ℕ, Bool, true, false, ◌&&◌, nat_eq, List, length, Option, Some, slice_get}
use Rattle.std.specs.Cmp.Lexicographic.{pointwise}
use Rattle.std.specs.HashMap.{get_by}
use Rattle.std.specs.List.{AllByRecursion, position_from}
use Rattle.deck_names.specs.declared.definition.Definition.{Definition}
use Rattle.deck_names.specs.declared.definition.Scope.{Scope}
use Rattle.deck_names.specs.declared.definition.Scope.TheVariants as scope
use Rattle.deck_names.specs.declared.table.Table.{Table}
use Rattle.deck_names.specs.declared.tables.Tables.{Tables}
use Rattle.deck_names.specs.Definitions.{has_name, IsPlace}

-- a table as a function: from a name to the first number that was entered under it
abbrev pub found : Table → List ℕ → Option ℕ
found table q = get_by (λ key. pointwise nat_eq q key.now) table.firsts

abbrev pub is_outside : Scope → Bool
is_outside scope.Everywhere = true
is_outside (scope.Check k) = false

abbrev pub is_inside : Scope → Bool
is_inside scope.Everywhere = false
is_inside (scope.Check k) = true

abbrev pub is_in : ℕ → Scope → Bool
is_in k scope.Everywhere = false
is_in k (scope.Check j) = nat_eq j k

-- the table has, under each name, the first definition with that name of those whose scope counts
abbrev pub HasFirsts : (Scope → Bool) → List Definition → Table → Type 0
HasFirsts counts definitions table =
    (q : List ℕ) → found table q ≡ position_from (λ d. counts d.scope && has_name q d) 0 definitions

-- the table of those outside checks, that of those in checks, and that of each check
pub record AreTables (tables : Tables) : Type 0 where
  pub outer : HasFirsts is_outside tables.definitions.items tables.outside
  pub inner : HasFirsts is_inside tables.definitions.items tables.inside
  pub each : (k : ℕ) (table : Table) → slice_get tables.checks.items k ≡ Some table
      → HasFirsts (is_in k) tables.definitions.items table
  pub places : AllByRecursion (λ d. IsPlace (length tables.checks.items) d.scope) tables.definitions.items
