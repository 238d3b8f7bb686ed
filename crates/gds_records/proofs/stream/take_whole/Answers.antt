use Rattle.std.proofs.Common.{◌≡◌, [], ◌∷◌, ◌++◌, map}
use Rattle.std.proofs.lemmas.List.{map_push}
use Rattle.gds_records.specs.Stream.{item_of}
use Rattle.gds_records.proofs.Taking.{taken-next}
use Rattle.gds_records.proofs.stream.take_whole.Goals as goal

pub loop-record-preserved : goal.loop-record-preserved
loop-record-preserved c = λ bytes start.
    let takes = rw c.in-Some.is at c.in_ok-record.ensures.taken in
    let grown : map item_of c.push.new.self.items ≡ map item_of c.loop-record.taken.items ++ item_of c.in-Some.record ∷ [] =
    rw c.in_ok-push.ensures.items (map_push item_of c.loop-record.taken.items c.in-Some.record) in
    rw grown (taken-next bytes (map item_of c.loop-record.taken.items) c.loop-record.framer c.in-Some.record c.take.new.self (c.loop-record.invariant bytes start) takes)
