use Rattle.std.proofs.Common.{◌≡◌, ◌⊎◌, ◌-◌, ◌<◌, ◌≤◌, true, false, length}
use Rattle.chunked_list.specs.Working.Places.{begins_passed, items_of}
use Rattle.chunked_list.proofs.search.chunk_of.Given as goal

abbrev pub invariant-loop-high : goal.invariant-loop-high
invariant-loop-high g l =
    (l.low < l.high)
    × (l.high ≤ length l.chunks)
    × ((l.low ≡ 0) ⊎ (begins_passed (g.P.Test.passed_by l.test) (items_of l.chunks l.low) ≡ false))
    × ((l.high ≡ length l.chunks) ⊎ (begins_passed (g.P.Test.passed_by l.test) (items_of l.chunks l.high) ≡ true))

abbrev pub decreases-loop-high : goal.decreases-loop-high
decreases-loop-high g l = l.high - l.low
