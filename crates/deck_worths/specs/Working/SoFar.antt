-- The worths of some definitions, one after another.
use Rattle.std.specs.Prelude.{◌≡◌, ◌⊎◌, ℕ, ◌<◌, List, length, map, Option, Some, None, Result, Ok, Err, slice_get}
use Rattle.std.specs.Global.{Vec}
use Rattle.drc_num.specs.Fractions.{Fraction}
use Rattle.deck_tree.specs.Names.{Names}
use Rattle.deck_tree.specs.Worths.{Worth, answer, value_worth}
use Rattle.deck_tree.specs.declared.value_fault.ValueFault.{ValueFault}
use Rattle.deck_names.specs.declared.definition.Scope.{Scope}
use Rattle.deck_names.specs.declared.definition.Scope.TheVariants as scope
use Rattle.deck_order.specs.Orders.{ListsEach, StandBehindUses}
use Rattle.deck_definitions.specs.Definitions.{Entry, Meaning, drawn, derived, worth}
use Rattle.deck_graph.specs.Graphs.{numbers, uses_of}
use Rattle.deck_worths.specs.Worths.{IsWorth, names_at}

-- the fraction of an answer, if it has one
abbrev pub answered : Result Fraction (Option ValueFault) → Option Fraction
answered (Ok q) = Some q
answered (Err fault) = None

-- the fraction to which a value comes, if it comes to one
abbrev pub come_to : Worth → Option Fraction
come_to w = answered (answer w)

-- what a meaning is worth to a name that is seen from a place, by these worths of definitions
abbrev pub meaning_worth : List Entry → List (Option Fraction) → Scope → Meaning → Option Fraction
meaning_worth all worths from (drawn numbers) = None
meaning_worth all worths from (derived layer) = None
meaning_worth all worths scope.Everywhere (worth value) = come_to (value_worth (names_at all worths scope.Everywhere) value)
meaning_worth all worths (scope.Check check) (worth value) = None

-- the list has each definition once, behind those that it uses and that don't lead back to it
pub record IsOrderOf (all : List Entry) (listed : List ℕ) : Type 0 where
  pub uses : List (Vec ℕ)
  pub are : numbers uses ≡ map (uses_of all) all
  pub each : ListsEach (length uses) listed
  pub behind : StandBehindUses uses listed

-- each worth is so, and those of the first k that are listed are there
pub record IsSoFar (all : List Entry) (listed : List ℕ) (k : ℕ) (worths : List (Option Fraction)) : Type 0 where
  pub as_many : length worths ≡ length all
  pub so : (i : ℕ) (q : Fraction) → slice_get worths i ≡ Some (Some q) → IsWorth all i q
  pub there : (m i : ℕ) (q : Fraction) → m < k → slice_get listed m ≡ Some i → IsWorth all i q → slice_get worths i ≡ Some (Some q)

-- what is told of names so far is as is known of them
abbrev pub IsTold : (told known : Names) → Type 0
IsTold told known = (q : List ℕ) → (told q ≡ None) ⊎ (told q ≡ known q)
