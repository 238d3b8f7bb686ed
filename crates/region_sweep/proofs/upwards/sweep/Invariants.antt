use Rattle.std.proofs.Common.{◌≡◌, ◌+◌, [], length}
use Rattle.region_sweep.specs.Counts.{AreWide}
use Rattle.region_sweep.specs.Working.Sweeps.{IsSwept, reached, sweep}
use Rattle.region_sweep.proofs.upwards.sweep.Given as goal

abbrev pub invariant-loop-line : goal.invariant-loop-line
invariant-loop-line g l =
    IsSwept
    (sweep (g.E.Evaluator.inside l.evaluator) (g.E.Evaluator.counted l.evaluator) g.V.Value.zero l.first l.second)
    (reached l.sweeping.row l.sweeping.flips.items l.first_left l.second_left)
    × AreWide l.first_left
    × AreWide l.second_left
    × (l.sweeping.pending.items ≡ [])

abbrev pub decreases-loop-line : goal.decreases-loop-line
decreases-loop-line g l = length l.first_left + length l.second_left
