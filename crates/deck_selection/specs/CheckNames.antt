-- The facts of the names of checks: a check has the name of an earlier one, or a name of SELECT or UNSELECT is that of no
-- check. Each stands at the name.
use Rattle.std.specs.Prelude.{Bool, not, List, [], ◌∷◌, ◌++◌, if◌then◌else◌}
use Rattle.std.specs.List.{flat_map}
use Rattle.deck_tree.specs.declared.name_at.NameAt.{NameAt}
use Rattle.deck_tree.specs.declared.statement.Statement.{Statement}
use Rattle.deck_tree.specs.declared.statement.Statement.TheVariants as statement
use Rattle.deck_tree.specs.declared.deck.Deck.{Deck}
use Rattle.deck_tree.specs.declared.refusal.DeckKind.{DeckKind}
use Rattle.deck_tree.specs.declared.refusal.DeckKind.TheVariants as kinds
use Rattle.deck_tree.specs.declared.refusal.DeckRefusal.{DeckRefusal}
use Rattle.deck_selection.specs.Selection.{is_named}

-- a fact of this kind at the name, if it holds
abbrev pub one_if : Bool → DeckKind → NameAt → List DeckRefusal
one_if holds kind n = if holds then record { at = n.at; kind = kind } ∷ [] else []

-- the name of the check that a statement is
abbrev pub checked_by : Statement → List NameAt
checked_by (statement.Check name items) = name ∷ []
checked_by other = []

-- the names that a statement selects or unselects
abbrev pub picked_by : Statement → List NameAt
picked_by (statement.SelectCheck at names) = names
picked_by (statement.UnselectCheck at names) = names
picked_by other = []

-- of names behind others: each that an earlier one has
abbrev pub repeated : (earlier names : List NameAt) → List DeckRefusal
repeated earlier [] = []
repeated earlier (n ∷ more) =
    one_if (is_named n.name earlier) kinds.DuplicateName n ++ repeated (earlier ++ n ∷ []) more

-- a name that is none of the checks'
abbrev pub unknown : (checks : List NameAt) → NameAt → List DeckRefusal
unknown checks n = one_if (not (is_named n.name checks)) kinds.UndefinedName n

abbrev pub check_name_facts : Deck → List DeckRefusal
check_name_facts deck =
    repeated [] (flat_map checked_by deck.statements)
    ++ flat_map (unknown (flat_map checked_by deck.statements)) (flat_map picked_by deck.statements)
