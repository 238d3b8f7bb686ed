use Rattle.std.proofs.Common.{◌≡◌, length, map}
use Rattle.gds_records.specs.Stream.{item_of}
use Rattle.gds_library.specs.Fields as field
use Rattle.gds_library.proofs.fields.find.Given as goal

abbrev pub invariant-loop-records : goal.invariant-loop-records
invariant-loop-records l = field.find l.kind (map item_of l.records) ≡ field.find l.kind (map item_of l.initial.records)

abbrev pub decreases-loop-records : goal.decreases-loop-records
decreases-loop-records l = length l.records
