-- What a set of names has, and what is kept of the SELECT and UNSELECT statements.
use Rattle.std.specs.Prelude.{◌≡◌, ℕ, Bool, not, ◌||◌, ◌&&◌, nat_eq, List, map}
use Rattle.std.specs.Cmp.Lexicographic.{pointwise}
use Rattle.std.specs.HashSet.{contains_by}
use Rattle.std.specs.List.{flat_map, list_any}
use Rattle.std.specs.Borrow.{Bor}
use Rattle.deck_tree.specs.declared.name_at.NameAt.{NameAt}
use Rattle.deck_tree.specs.declared.statement.Statement.{Statement}
use Rattle.deck_tree.specs.declared.refusal.DeckKind.TheVariants as kinds
use Rattle.deck_tree.specs.declared.refusal.DeckRefusal.{DeckRefusal}
use Rattle.deck_selection.specs.declared.name_set.NameSet.{NameSet}
use Rattle.deck_selection.specs.declared.selection.Selection.{Selection}
use Rattle.deck_selection.specs.CheckNames.{one_if}
use Rattle.deck_selection.specs.Selection.{Entry, is_named, is_select, selected_by, unselected_by}

abbrev pub has : NameSet → List ℕ → Bool
has set q = contains_by (λ name. pointwise nat_eq q name.now) set.names

-- what is kept is what the statements say
pub record Says (selection : Selection) (statements : List Statement) : Type 0 where
  pub selects : selection.selects ≡ list_any is_select statements
  pub selected : (q : List ℕ) → has selection.selected q ≡ is_named q (flat_map selected_by statements)
  pub unselected : (q : List ℕ) → has selection.unselected q ≡ is_named q (flat_map unselected_by statements)

-- what one statement more says is added
pub record IsOneMore (old : Selection) (one : Statement) (new : Selection) : Type 0 where
  pub selects : new.selects ≡ (old.selects || is_select one)
  pub selected : (q : List ℕ) → has new.selected q ≡ (has old.selected q || is_named q (selected_by one))
  pub unselected : (q : List ℕ) → has new.unselected q ≡ (has old.unselected q || is_named q (unselected_by one))

abbrev pub chosen : Selection → List ℕ → Bool
chosen selection q = (not selection.selects || has selection.selected q) && not (has selection.unselected q)

abbrev pub passes : Selection → Entry → Bool
passes selection c = chosen selection c.name.name

-- what references to names show
abbrev pub names_shown : List (Bor NameAt) → List NameAt
names_shown = map (λ name. name.now)

-- a name that isn't in the set
abbrev pub unknown_to : NameSet → NameAt → List DeckRefusal
unknown_to known n = one_if (not (has known n.name)) kinds.UndefinedName n
