-- What the code keeps, as contracts see it: a list of results, and the check that is open.
use Rattle.std.specs.Prelude.{ℕ, ◌+◌, ◌*◌, ◌^◌, ◌≤◌, List, map, Option, Some, None}
use Rattle.results_db.specs.declared.lines.Content.{Content}
use Rattle.results_db.specs.declared.lines.Content.TheVariants.{Runs}
use Rattle.results_db.specs.declared.results.OpenCheck.{OpenCheck}
use Rattle.results_db.specs.Results.{Result, run}
use Rattle.results_db.specs.Making.{KeptCheck}

abbrev pub results_in : Content → List Result
results_in (Runs runs) = map run runs.items

abbrev pub check_of : Option OpenCheck → List ℕ → Option KeptCheck
check_of None body = None
check_of (Some check) body = Some (record { notes = check.notes; found = check.found; body = body })

abbrev pub found_of_open : Option OpenCheck → ℕ
found_of_open None = 0
found_of_open (Some check) = check.found

-- each output has fewer than 2^64 results, and no more are written than are found
pub record IsCounted (found written outputs : ℕ) (check : Option OpenCheck) : Type 0 where
  pub few : outputs ≤ 4096
  pub counted : found + found_of_open check ≤ 2 ^ 64 * outputs
  pub within_found : written ≤ found
