-- How a run of one command ends.
use Rattle.std.specs.Prelude.{◌⊎◌, Bool}
use Rattle.drc_ports.specs.Files.{World}
use Rattle.drc_cli.specs.declared.answer.Status.{Status}
use Rattle.drc_cli.specs.Command.{Command}
use Rattle.drc_cli.specs.Meaning.{Leads}
use Rattle.drc_cli.specs.Outcome.{Outcome}
use Rattle.drc_cli.specs.ProgramEnds.{EndsAs, IsOutOfMemory}

abbrev pub CommandEnds : Command → Status → (tells : Bool) → World → World → Type 0
CommandEnds command answer tells old new =
    ((outcome : Outcome) × Leads command outcome × EndsAs outcome answer tells old new)
    ⊎ IsOutOfMemory answer tells old new
