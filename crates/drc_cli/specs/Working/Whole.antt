-- A piece that is written whole, in as many calls as it takes, behind these bytes of the file being written.
-- Where a call fails, a front of the piece has gone out.
use Rattle.std.specs.Prelude.{◌≡◌, ℕ, List, ◌++◌, Result, Ok, Err}
use Rattle.drc_ports.specs.declared.failed.Failed.{Failed}
use Rattle.drc_ports.specs.Counts.{one_more}
use Rattle.drc_ports.specs.Files.{Tally, Contents, HasNow}
use Rattle.drc_cli.specs.Steps.{IsCutShort}

abbrev pub write_all_tally : Result (Unit {0}) Failed → Tally → Tally
write_all_tally (Ok _) old = old
write_all_tally (Err _) old = record old { write_faults = one_more old.write_faults }

abbrev pub WritesAll : (bytes piece : List ℕ) → Result (Unit {0}) Failed → Contents → Contents → Type 0
WritesAll bytes piece (Ok _) old new =
    HasNow old.target (bytes ++ piece) old.made new.made × (new ≡ record old { made = new.made })
WritesAll bytes piece (Err _) old new =
    (front : List ℕ) × IsCutShort piece front
    × HasNow old.target (bytes ++ front) old.made new.made × (new ≡ record old { made = new.made })
