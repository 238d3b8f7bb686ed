use Rattle.std.proofs.Common.{map, take}
use Rattle.std.specs.List.{flat_map}
use Rattle.gds_records.specs.Stream.{item_of}
use Rattle.gds_records.specs.Working.Taking.{HasTaken, IsDry}
use Rattle.gds_records.proofs.stream.records.Given as goal

abbrev pub invariant-loop-piece : goal.invariant-loop-piece
invariant-loop-piece l =
    HasTaken (flat_map (λ piece. piece.items) (take l.piece-index l.pieces)) (map item_of l.taken.items) l.framer × IsDry l.framer
