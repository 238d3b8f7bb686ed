use Rattle.std.proofs.Common.{◌-◌, ◌≤◌, length, take, drop}
use Rattle.interval_row.specs.Rows.{BeginsAbove}
use Rattle.interval_row.proofs.Places.{EndsBy}
use Rattle.interval_row.proofs.row.finds.Given as goal

abbrev pub invariant-loop-low : goal.invariant-loop-low
invariant-loop-low l =
    record {
      ordered : l.low ≤ l.high;
      in_range : l.high ≤ length l.spans;
      left_out : EndsBy (take l.low l.spans) l.x;
      right_out : BeginsAbove l.x (drop l.high l.spans);
    }

abbrev pub decreases-loop-low : goal.decreases-loop-low
decreases-loop-low l = l.high - l.low
