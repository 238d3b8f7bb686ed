use Rattle.std.proofs.Common.{ℕ, List, length}
use Rattle.gds_records.specs.Records.{Item}
use Rattle.drc_cli.specs.Working.LayoutReading.{IsAt}
use Rattle.drc_cli.proofs.layout.reader.Reader.take_all.Given as goal

abbrev pub invariant-loop-stop : goal.invariant-loop-stop
invariant-loop-stop l =
    (fed : List ℕ) (items : List Item) → IsAt (record { primary = l.primary; number = l.number }) fed items l.fn.self
    → (now : List Item) × IsAt (record { primary = l.primary; number = l.number }) fed now l.self

abbrev pub decreases-loop-stop : goal.decreases-loop-stop
decreases-loop-stop l = length l.self.framer.left
