-- Which definitions of a deck the names in them stand for, and which of them repeat a name.
use Rattle.std.specs.Prelude.{◌≡◌, ℕ, ◌<◌, ◌↔◌, ◌&&◌, Bool, true, nat_eq, List, [], length, map, Option, Some, slice_get}
use Rattle.std.specs.Cmp.Lexicographic.{pointwise}
use Rattle.std.specs.Global.{Vec}
use Rattle.std.specs.List.{AllByRecursion, filter_map, position_from}
use Rattle.deck_tree.specs.declared.deck.Deck.{Deck}
use Rattle.deck_tree.specs.declared.name_at.NameAt.{NameAt}
use Rattle.deck_names.specs.declared.definition.Scope.{Scope}
use Rattle.deck_names.specs.Definitions.{IsPlace, is_seen}
use Rattle.deck_uses.specs.UsedNames.{layer_names, value_names}
use Rattle.deck_counts.specs.Outputs.{checks_of}
use Rattle.deck_definitions.specs.Definitions.{Entry, Meaning, definitions_of, drawn, derived, worth}

-- what a deck defines, in the order of its text, and how many checks it has
pub record Outline : Type 0 where
  pub definitions : List Entry
  pub checks : ℕ

abbrev pub outline_of : Deck → Outline
outline_of deck = record { definitions = definitions_of deck; checks = length (checks_of deck) }

-- each definition stands at a place of a deck with so many checks
abbrev pub StandAtPlaces : ℕ → List Entry → Type 0
StandAtPlaces checks = AllByRecursion (λ (e : Entry). IsPlace checks e.scope)

-- ---- What names stand for

-- whether it has the name, and is seen from the place
abbrev pub is_for : Scope → List ℕ → List ℕ × Scope → Bool
is_for from q key = is_seen key.1 from && pointwise nat_eq q key.0

abbrev pub key_of : Entry → List ℕ × Scope
key_of e = (e.name.name, e.scope)

-- the definition for which a name stands at a place: the number of the first that has the name and is seen from there
abbrev pub number_for : List Entry → Scope → List ℕ → Option ℕ
number_for all from q = position_from (λ e. is_for from q (key_of e)) 0 all

-- ---- Uses

-- the names that stand in what a name stands for
abbrev pub used_names : Meaning → List NameAt
used_names (drawn numbers) = []
used_names (derived layer) = layer_names layer
used_names (worth value) = value_names value

-- the numbers of the definitions for which the names in a definition stand, where there are any
abbrev pub uses_of : List Entry → Entry → List ℕ
uses_of all e = filter_map (λ name. number_for all e.scope name.name) (used_names e.meaning)

-- definition i uses definition j
pub record Uses (all : List Entry) (i j : ℕ) : Type 0 where
  pub entry : Entry
  pub there : slice_get all i ≡ Some entry
  pub place : ℕ
  pub use_there : slice_get (uses_of all entry) place ≡ Some j

-- one use after another leads from definition i to definition j
pub data LeadsTo (all : List Entry) : ℕ → ℕ → Type 0 where
  at_once : {i j : ℕ} → Uses all i j → LeadsTo all i j
  by : {i j k : ℕ} → Uses all i k → LeadsTo all k j → LeadsTo all i j

-- the numbers in lists of lists
abbrev pub numbers : List (Vec ℕ) → List (List ℕ)
numbers = map (λ v. v.items)

-- ---- Repetitions

-- an earlier definition has the name of this one, and both are seen from some place
pub record IsRepeated (all : List Entry) (number : ℕ) : Type 0 where
  pub earlier : ℕ
  pub before : earlier < number
  pub first : Entry
  pub first_there : slice_get all earlier ≡ Some first
  pub second : Entry
  pub second_there : slice_get all number ≡ Some second
  pub same : pointwise nat_eq second.name.name first.name.name ≡ true
  pub from : Scope
  pub first_seen : is_seen first.scope from ≡ true
  pub second_seen : is_seen second.scope from ≡ true

-- a flag for each definition: whether it repeats an earlier one
pub record TellRepeated (all : List Entry) (flags : List Bool) : Type 0 where
  pub as_many : length flags ≡ length all
  pub each : (i : ℕ) (b : Bool) → slice_get flags i ≡ Some b → (b ≡ true) ↔ IsRepeated all i
