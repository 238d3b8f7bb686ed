-- The checks of a deck, and which of them are selected: a check is where no SELECT stands in the deck or one names it, and
-- no UNSELECT names it.
use Rattle.std.specs.Prelude.{ℕ, ◌+◌, Bool, true, false, not, ◌||◌, ◌&&◌, nat_eq, List, [], ◌∷◌, map}
use Rattle.std.specs.Cmp.Lexicographic.{pointwise}
use Rattle.std.specs.List.{filter, flat_map, list_any}
use Rattle.deck_tree.specs.declared.name_at.NameAt.{NameAt}
use Rattle.deck_tree.specs.declared.statement.Statement.{Statement}
use Rattle.deck_tree.specs.declared.statement.Statement.TheVariants as statement
use Rattle.deck_tree.specs.declared.statement.Item.{Item}
use Rattle.deck_tree.specs.declared.deck.Deck.{Deck}
use Rattle.deck_selection.specs.declared.check.Check.{Check}

-- a check: its number among all checks, its name, and its parts
pub record Entry : Type 0 where
  pub number : ℕ
  pub name : NameAt
  pub items : List Item

abbrev pub entry : ℕ → NameAt → List Item → Entry
entry number name items = record { number = number; name = name; items = items }

-- the checks of statements, by the number of the first
abbrev pub checks_from : ℕ → List Statement → List Entry
checks_from number [] = []
checks_from number (statement.Check name items ∷ more) = entry number name items ∷ checks_from (number + 1) more
checks_from number (other ∷ more) = checks_from number more

abbrev pub is_select : Statement → Bool
is_select (statement.SelectCheck at names) = true
is_select other = false

-- the names that a statement selects, and those that it unselects
abbrev pub selected_by : Statement → List NameAt
selected_by (statement.SelectCheck at names) = names
selected_by other = []

abbrev pub unselected_by : Statement → List NameAt
unselected_by (statement.UnselectCheck at names) = names
unselected_by other = []

-- whether it is one of the names
abbrev pub is_named : List ℕ → List NameAt → Bool
is_named q names = list_any (λ (n : NameAt). pointwise nat_eq q n.name) names

-- whether a check of this name is selected in a deck of these statements
abbrev pub is_selected : List Statement → List ℕ → Bool
is_selected statements q =
    (not (list_any is_select statements) || is_named q (flat_map selected_by statements))
    && not (is_named q (flat_map unselected_by statements))

-- the selected checks of the deck, in its order
abbrev pub selected_of : Deck → List Entry
selected_of deck = filter (λ c. is_selected deck.statements c.name.name) (checks_from 0 deck.statements)

-- what is kept of a check
abbrev pub entry_of : Check → Entry
entry_of c = entry c.number c.name.now c.items.now

abbrev pub shown : List Check → List Entry
shown = map entry_of
