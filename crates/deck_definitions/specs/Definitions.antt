-- The definitions of a deck, in the order of its text.
use Rattle.std.specs.Prelude.{ℕ, ◌+◌, List, [], ◌∷◌, ◌++◌, map}
use Rattle.std.specs.List.{flat_map}
use Rattle.deck_tree.specs.declared.name_at.NameAt.{NameAt}
use Rattle.deck_tree.specs.declared.number.Number.{Number}
use Rattle.deck_tree.specs.declared.value.Value.{Value}
use Rattle.deck_tree.specs.declared.layer.Layer.{Layer}
use Rattle.deck_tree.specs.declared.statement.Statement.{Statement}
use Rattle.deck_tree.specs.declared.statement.Statement.TheVariants as statement
use Rattle.deck_tree.specs.declared.statement.Item.{Item}
use Rattle.deck_tree.specs.declared.statement.Item.TheVariants as item
use Rattle.deck_tree.specs.declared.deck.Deck.{Deck}
use Rattle.deck_names.specs.declared.definition.Scope.{Scope}
use Rattle.deck_names.specs.declared.definition.Scope.TheVariants as scope
use Rattle.deck_definitions.specs.declared.defined.Body.{Body}
use Rattle.deck_definitions.specs.declared.defined.Body.TheVariants as body
use Rattle.deck_definitions.specs.declared.defined.Defined.{Defined}

-- what a name stands for: layers of the layout, by their numbers; a layer that is derived; or a value
pub data Meaning : Type 0 where
  drawn : List Number → Meaning
  derived : Layer → Meaning
  worth : Value → Meaning

-- a definition: the name, from where it is seen, and what it stands for
pub record Entry : Type 0 where
  pub name : NameAt
  pub scope : Scope
  pub meaning : Meaning

abbrev pub entry : NameAt → Scope → Meaning → Entry
entry name place meaning = record { name = name; scope = place; meaning = meaning }

-- by an item of the check with this number
abbrev pub item_entries : ℕ → Item → List Entry
item_entries check (item.Definition name layer) = entry name (scope.Check check) (derived layer) ∷ []
item_entries check (item.Note text) = []
item_entries check (item.Output layer) = []

-- by a statement with so many checks before it
abbrev pub statement_entries : ℕ → Statement → List Entry
statement_entries checks (statement.Layer at name numbers) = entry name scope.Everywhere (drawn numbers) ∷ []
statement_entries checks (statement.Variable at name value) = entry name scope.Everywhere (worth value) ∷ []
statement_entries checks (statement.Definition name layer) = entry name scope.Everywhere (derived layer) ∷ []
statement_entries checks (statement.Check name items) = flat_map (item_entries checks) items
statement_entries checks other = []

-- how many checks there are behind a statement
abbrev pub checks_behind : ℕ → Statement → ℕ
checks_behind checks (statement.Check name items) = checks + 1
checks_behind checks other = checks

abbrev pub entries_from : ℕ → List Statement → List Entry
entries_from checks [] = []
entries_from checks (one ∷ more) = statement_entries checks one ++ entries_from (checks_behind checks one) more

abbrev pub definitions_of : Deck → List Entry
definitions_of deck = entries_from 0 deck.statements

-- what is kept of a definition
abbrev pub meaning_of : Body → Meaning
meaning_of (body.Drawn numbers) = drawn numbers.now
meaning_of (body.Derived layer) = derived layer.now
meaning_of (body.Variable value) = worth value.now

abbrev pub entry_of : Defined → Entry
entry_of d = entry d.name.now d.scope (meaning_of d.body)

abbrev pub shown : List Defined → List Entry
shown = map entry_of
