-- A file that is read whole, or so far that it is seen to be longer than a limit.
use Rattle.std.specs.Prelude.{◌≡◌, ℕ, ◌≤◌, List, [], ◌++◌, length, Result, Ok, Err}
use Rattle.std.specs.Global.{Vec}
use Rattle.drc_ports.specs.Counts.{one_more}
use Rattle.drc_ports.specs.Files.{Tally, Contents}
use Rattle.drc_cli.specs.declared.read.ReadEnd.{ReadEnd}
use Rattle.drc_cli.specs.declared.read.ReadEnd.TheVariants as ends

abbrev pub read_whole_tally : Result (Vec ℕ) ReadEnd → Tally → Tally
read_whole_tally (Err ends.Failed) old = record old { read_faults = one_more old.read_faults }
read_whole_tally result old = old

-- a front of what was left was read: all of it, unless it is longer than the limit
abbrev pub ReadsWhole : (limit : ℕ) → Result (Vec ℕ) ReadEnd → Contents → Contents → Type 0
ReadsWhole limit (Ok bytes) old new =
    (rest : List ℕ) × (old.left ≡ bytes.items ++ rest) × (length bytes.items ≤ limit → rest ≡ []) × (new ≡ record old { left = rest })
ReadsWhole limit (Err end) old new = new ≡ record old { left = new.left }
