use Rattle.std.proofs.Common.{◌≡◌, ◌≤◌, ◌-◌, length, take}
use Rattle.interval_row.proofs.walk.common_front.Given as goal

abbrev pub invariant-loop-common : goal.invariant-loop-common
invariant-loop-common l = (l.common ≤ length l.first) × (l.common ≤ length l.second) × (take l.common l.first ≡ take l.common l.second)

abbrev pub decreases-loop-common : goal.decreases-loop-common
decreases-loop-common l = length l.first - l.common
