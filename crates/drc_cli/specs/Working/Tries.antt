-- A step that was tried, by what the call answered.
use Rattle.std.specs.Prelude.{Bool, Result, Ok, Err}
use Rattle.drc_ports.specs.declared.failed.Failed.{Failed}
use Rattle.drc_ports.specs.Files.{World}
use Rattle.drc_cli.specs.Outcome.{Step}
use Rattle.drc_cli.specs.Steps.{IsDone, Fails}

abbrev pub Tries : (tells : Bool) → Step → Result (Unit {0}) Failed → World → World → Type 0
Tries tells step (Ok _) old new = IsDone tells step old new
Tries tells step (Err _) old new = Fails tells step old new
