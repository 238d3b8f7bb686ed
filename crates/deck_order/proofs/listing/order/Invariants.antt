use Rattle.std.proofs.Common.{◌≡◌, ◌<◌, [], ℕ, Some}
use Rattle.std.specs.Prelude.{slice_get}
use Rattle.deck_order.specs.declared.mark.Mark.TheVariants.{Closed}
use Rattle.deck_order.specs.Working.Walks.{stage_of, IsWalk}
use Rattle.deck_order.proofs.listing.order.Given as goal

abbrev pub invariant-loop-root : goal.invariant-loop-root
invariant-loop-root l =
    IsWalk l.uses (stage_of l.walk)
    × (l.walk.path.items ≡ [])
    × ((u : ℕ) → u < l.root → slice_get l.walk.marks.items u ≡ Some Closed)
