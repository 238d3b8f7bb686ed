-- A table as a function, once a number was entered under a name; and the least of two numbers that may be there.
use Rattle.std.specs.Prelude.{◌≡◌, ℕ, min, nat_eq, List, Option, Some, None, slice_get, slice_set, if◌then◌else◌}
use Rattle.std.specs.Cmp.Lexicographic.{pointwise}
use Rattle.std.specs.Option.{option_or}
use Rattle.deck_names.specs.declared.table.Table.{Table}
use Rattle.deck_names.specs.Tables.{found}

abbrev pub entered : (List ℕ → Option ℕ) → List ℕ → ℕ → List ℕ → Option ℕ
entered table name number q = if pointwise nat_eq q name then option_or (table q) (Some number) else table q

-- the tables are others in that of one check, into which a number was entered
pub record IsEntered (old : List Table) (check : ℕ) (name : List ℕ) (number : ℕ) (new : List Table) : Type 0 where
  pub table : Table
  pub set : new ≡ slice_set old check table
  pub entry : (was : Table) → slice_get old check ≡ Some was → (q : List ℕ) → found table q ≡ entered (found was) name number q

abbrev pub least_of : Option ℕ → Option ℕ → Option ℕ
least_of None b = b
least_of (Some a) None = Some a
least_of (Some a) (Some b) = Some (min a b)
