-- The table after the events so far, which were legal, and the greatest total among them.
use Rattle.std.proofs.Common.{take}
use Rattle.trace_replay.proofs.Made.{IsMade}
use Rattle.trace_replay.proofs.rerun.rerun.Given as goal

abbrev pub invariant-loop-index : goal.invariant-loop-index
invariant-loop-index l = IsMade l.costs l.fn.table l.table (take l.index l.events) l.peak
