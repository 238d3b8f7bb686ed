-- A check's results as the code lends them, without where they lie in memory.
use Rattle.std.specs.Prelude.{List, map}
use Rattle.drc_cli.specs.declared.text.Found.{Found}
use Rattle.drc_cli.specs.declared.text.Found.TheVariants.{Runs}
use Rattle.drc_cli.specs.declared.text.CheckResults.{CheckResults as Lent}
use Rattle.drc_cli.specs.Text.{Result, run, CheckResults}

abbrev pub results_in : Found → List Result
results_in (Runs runs) = map run runs.now

abbrev pub results_of : Lent → CheckResults
results_of check = record {
  name = check.name.now;
  notes = check.notes.now;
  limit = check.limit;
  date = check.date.now;
  results = results_in check.found;
}
