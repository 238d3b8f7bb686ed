use Rattle.std.proofs.Common.{ℕ, List, length, map}
use Rattle.gds_records.specs.Stream.{item_of}
use Rattle.gds_records.specs.Working.Taking.{HasTaken}
use Rattle.gds_records.proofs.stream.take_whole.Given as goal

abbrev pub invariant-loop-record : goal.invariant-loop-record
invariant-loop-record l =
    (bytes : List ℕ) → HasTaken bytes (map item_of l.initial.taken.items) l.initial.framer → HasTaken bytes (map item_of l.taken.items) l.framer

abbrev pub decreases-loop-record : goal.decreases-loop-record
decreases-loop-record l = length l.framer.left
