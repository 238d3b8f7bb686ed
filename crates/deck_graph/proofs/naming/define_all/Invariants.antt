-- The names that were defined, and those that are left, make the whole; what is left stands at places of the deck; and each
-- flag so far tells of its definition.
use Rattle.std.proofs.Common.{◌≡◌, ◌↔◌, ℕ, ◌++◌, Bool, true, Some, drop, length, map}
use Rattle.std.specs.Prelude.{slice_get}
use Rattle.deck_definitions.specs.Definitions.{shown}
use Rattle.deck_graph.specs.Graphs.{key_of, IsRepeated, StandAtPlaces}
use Rattle.deck_graph.specs.Kept.{kept_key}
use Rattle.deck_graph.proofs.naming.define_all.Given as goal

abbrev pub invariant-loop-one : goal.invariant-loop-one
invariant-loop-one l =
    (map kept_key l.names.definitions ++ map key_of (shown (drop l.one-index l.definitions)) ≡ map key_of (shown l.definitions))
    × (length l.names.definitions ≡ l.one-index)
    × (l.names.checks ≡ l.initial.names.checks)
    × StandAtPlaces l.names.checks (shown (drop l.one-index l.definitions))
    × (length l.repeated.items ≡ l.one-index)
    × ((i : ℕ) (b : Bool) → slice_get l.repeated.items i ≡ Some b → (b ≡ true) ↔ IsRepeated (shown l.definitions) i)
