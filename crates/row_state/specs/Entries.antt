-- Entries: a function from columns to values. An entry's value holds from its column up to the next entry's.
--
--     column    ..   3     7     9        14    ..
--     value     0    |  1  |  2  |   1    |  0          entries (3, 1) (7, 2) (9, 1) (14, 0)
use Rattle.std.specs.Prelude.{◌≡◌, ℤ, ◌<ℤ◌, int_le, if◌then◌else◌, List, [], ◌∷◌}
use Rattle.std.specs.List.{AllByRecursion}
use Rattle.row_state.specs.declared.entry.Entry.{Entry}

-- the value of column x: that of the last entry at or before it, or else the one that stands before all
abbrev pub value_from : {V : Type 0} → V → List (Entry V) → ℤ → V
value_from before [] x = before
value_from before (e ∷ es) x = value_from (if int_le e.column x then e.value else before) es x

-- the value behind all entries
abbrev pub last_value : {V : Type 0} → V → List (Entry V) → V
last_value before [] = before
last_value before (e ∷ es) = last_value e.value es

-- each entry stands before those behind it
abbrev pub Ascend : {V : Type 0} → List (Entry V) → Type 0
Ascend [] = Unit {0}
Ascend (e ∷ es) = AllByRecursion (λ f. e.column <ℤ f.column) es × Ascend es

-- each entry changes the value
abbrev pub Differ : {V : Type 0} → V → List (Entry V) → Type 0
Differ before [] = Unit {0}
Differ before (e ∷ es) = (before ≡ e.value → ⊥) × Differ e.value es

-- The one form of a function that is zero at almost all columns: before the first entry and from the last on it is zero.
pub record IsRowState {V : Type 0} (zero : V) (entries : List (Entry V)) : Type 0 where
  pub ascend : Ascend entries
  pub differ : Differ zero entries
  pub closed : last_value zero entries ≡ zero
