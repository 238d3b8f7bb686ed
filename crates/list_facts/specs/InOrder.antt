-- Lists that hold the items that are wanted, in an order. Each set of wanted items has at most one such list.
use Rattle.std.specs.Prelude.{List, Contains}
use Rattle.std.specs.List.{AllByRecursion}
use Rattle.std.specs.List.Sorted.{IsStrictlySortedBy}
use Rattle.std.specs.declared.cmp.Ordering.{Ordering}

-- the list holds exactly the items that are wanted, each once, each before those behind it
pub record ListsInOrder {A : Type 0} (order : A → A → Ordering) (IsWanted : A → Type 0) (items : List A) : Type 0 where
  pub each : AllByRecursion IsWanted items
  pub every : (item : A) → IsWanted item → Contains items item
  pub ordered : IsStrictlySortedBy order items
