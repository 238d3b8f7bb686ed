use Rattle.std.proofs.Common.{◌≤◌, ◌-◌, length, take}
use Rattle.interval_row.specs.Rows.{StandsBehind}
use Rattle.interval_row.proofs.walk.ended_below.Given as goal

abbrev pub invariant-loop-count : goal.invariant-loop-count
invariant-loop-count l = (l.count ≤ length l.spans) × StandsBehind (take l.count l.spans) l.place

abbrev pub decreases-loop-count : goal.decreases-loop-count
decreases-loop-count l = length l.spans - l.count
