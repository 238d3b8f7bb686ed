-- What the variables of a deck are worth: the fractions to which their values come.
--
--     VARIABLE A B + 1     0: 3
--     VARIABLE B 2         1: 2
--     VARIABLE C C         2: none, it leads back to itself
--     VARIABLE D 1 / M1    3: none, M1 is a layer
use Rattle.std.specs.Prelude.{◌≡◌, ◌↔◌, ℕ, List, length, Option, Some, None, Ok, slice_get}
use Rattle.drc_num.specs.Fractions.{Fraction}
use Rattle.deck_tree.specs.Names.{Names}
use Rattle.deck_tree.specs.Worths.{value_worth}
use Rattle.deck_tree.specs.declared.name_at.NameAt.{NameAt}
use Rattle.deck_tree.specs.declared.value.Value.{Value}
use Rattle.deck_names.specs.declared.definition.Scope.{Scope}
use Rattle.deck_names.specs.declared.definition.Scope.TheVariants as scope
use Rattle.deck_uses.specs.UsedNames.{value_names}
use Rattle.deck_definitions.specs.Definitions.{Entry, entry, worth}
use Rattle.deck_graph.specs.Graphs.{number_for}

-- The definition with a number is worth a fraction: it is a variable, each name in its value stands for a definition that
-- is worth what is said of the name, and by what is said of them the value comes to the fraction.
pub data IsWorth (all : List Entry) : ℕ → Fraction → Type 0 where
  comes_to : {i : ℕ} {q : Fraction} (name : NameAt) (value : Value) (stands : List ℕ → ℕ) (said : List ℕ → Fraction)
      → slice_get all i ≡ Some (entry name scope.Everywhere (worth value))
      → ((k : ℕ) (x : NameAt) → slice_get (value_names value) k ≡ Some x → number_for all scope.Everywhere x.name ≡ Some (stands x.name))
      → ((k : ℕ) (x : NameAt) → slice_get (value_names value) k ≡ Some x → IsWorth all (stands x.name) (said x.name))
      → value_worth (λ n. Some (Some (said n))) value ≡ Ok q
      → IsWorth all i q

-- for each definition what it is worth, where it is worth something
pub record AreWorths (all : List Entry) (worths : List (Option Fraction)) : Type 0 where
  pub as_many : length worths ≡ length all
  pub each : (i : ℕ) (q : Fraction) → (slice_get worths i ≡ Some (Some q)) ↔ IsWorth all i q

-- what is there of what may be there
abbrev pub flat : Option (Option Fraction) → Option Fraction
flat None = None
flat (Some w) = w

-- the worth of the definition with this number, if it has one
abbrev pub worth_at : List (Option Fraction) → Option ℕ → Option Fraction
worth_at worths None = None
worth_at worths (Some i) = flat (slice_get worths i)

-- What is known of names at a place of the deck: the worth of the definition for which a name stands. A name that stands
-- for none, or for one that has none, comes to nothing, and that is no fault of the value.
abbrev pub names_at : List Entry → List (Option Fraction) → Scope → Names
names_at all worths from q = Some (worth_at worths (number_for all from q))

-- what is known of a name is a fraction
abbrev pub HasWorth : Names → NameAt → Type 0
HasWorth names x = (q : Fraction) × (names x.name ≡ Some (Some q))
