-- The steps, on what is kept of a report that is being made.
use Rattle.std.specs.Prelude.{ℕ, ◌+◌, ◌-◌, List, [], ◌++◌, length, take, Option, Some, None}
use Rattle.std.specs.List.{flat_map}
use Rattle.results_db.specs.Results.{Result, results_from}
use Rattle.results_db.specs.Reports.{within, line_text, counts_text}
use Rattle.results_db.specs.Making.{Kept, KeptCheck}

abbrev pub with_closed : Kept → Option KeptCheck → Kept
with_closed k None = k
with_closed k (Some check) = record k {
  text = k.text ++ counts_text (within k.limit check.found) check.found check.notes k.date ++ check.body;
  found = k.found + check.found;
  written = k.written + within k.limit check.found;
  open_check = None;
}

abbrev pub closed : Kept → Kept
closed k = with_closed k k.open_check

abbrev pub with_name : Kept → List ℕ → List (List ℕ) → Kept
with_name k name notes = record k {
  text = k.text ++ line_text name;
  open_check = Some (record { notes = length notes; found = 0; body = flat_map line_text notes });
}

abbrev pub check_with : Option ℕ → KeptCheck → List Result → KeptCheck
check_with limit check results = record check {
  found = check.found + length results;
  body = check.body
      ++ results_from (within limit check.found + 1) (take (within limit (check.found + length results) - within limit check.found) results);
}

abbrev pub open_with : Option ℕ → Option KeptCheck → List Result → Option KeptCheck
open_with limit None results = None
open_with limit (Some check) results = Some (check_with limit check results)

abbrev pub with_lines : Kept → List Result → Kept
with_lines k results = record k { outputs = k.outputs + 1; open_check = open_with k.limit k.open_check results }
