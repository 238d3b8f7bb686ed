-- What is told is as is known, and of the names so far it is told.
use Rattle.std.proofs.Common.{◌≡◌, ℕ, ◌<◌, Some}
use Rattle.std.specs.Prelude.{slice_get}
use Rattle.std.specs.Borrow.{Bor}
use Rattle.deck_tree.specs.KnownNames.{names_of}
use Rattle.deck_tree.specs.declared.name_at.NameAt.{NameAt}
use Rattle.deck_worths.specs.Worths.{names_at}
use Rattle.deck_worths.specs.Working.SoFar.{IsTold}
use Rattle.deck_worths.proofs.known.known.Given as goal

abbrev pub invariant-loop-name : goal.invariant-loop-name
invariant-loop-name l =
    IsTold (names_of l.vars) (names_at l.graph.definitions l.worths l.from)
    × ((k : ℕ) (x : Bor NameAt) → k < l.name-index → slice_get l.used k ≡ Some x
    → names_of l.vars x.now.name ≡ names_at l.graph.definitions l.worths l.from x.now.name)
