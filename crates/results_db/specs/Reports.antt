-- Reports: what a results file says. Every line ends in LF, and numbers are decimal. The file has a line
-- `PRIMARY PRECISION`, and then check by check its name, a line `WRITTEN FOUND NOTES DATE`, its notes, one to a line, and
-- the first WRITTEN of its FOUND results, numbered from 1. NOTES is the number of its notes. A check's results are those
-- of its outputs, one output after the other.
--
--     TOP 1000
--     SHORT
--     2 2 1 Jan 1 00:00:00 1970
--     short edge
--     e 1 1
--     0 0 100 0
--     e 2 1
--     0 300 100 300
use Rattle.std.specs.Prelude.{ℕ, min, List, ◌++◌, length, take, Option, Some, None, codes}
use Rattle.std.specs.List.{flat_map, sum_by}
use Rattle.std.specs.Fmt.{decimal}
use Rattle.results_db.specs.Results.{Result, results_from}

-- what one check says: its name, its notes, and the results of each of its outputs
pub record Check : Type 0 where
  pub name : List ℕ
  pub notes : List (List ℕ)
  pub outputs : List (List Result)

-- what a file says: the primary cell, the database units in a user unit, the date, the most results of a check that are
-- written, if there is a limit, and the checks
pub record Report : Type 0 where
  pub primary : List ℕ
  pub precision : ℕ
  pub date : List ℕ
  pub limit : Option ℕ
  pub checks : List Check

-- ---- how many results there are

-- all results of a check
abbrev pub results_of : Check → List Result
results_of check = flat_map (λ results. results) check.outputs

abbrev pub found_of : Check → ℕ
found_of check = length (results_of check)

-- how many of so many results are written
abbrev pub within : Option ℕ → ℕ → ℕ
within None found = found
within (Some limit) found = min found limit

abbrev pub written_of : Option ℕ → Check → ℕ
written_of limit check = within limit (found_of check)

-- how many results all checks found, how many of them are written, and how many outputs the checks have
abbrev pub found_in : Report → ℕ
found_in report = sum_by found_of report.checks

abbrev pub written_in : Report → ℕ
written_in report = sum_by (written_of report.limit) report.checks

abbrev pub outputs_in : Report → ℕ
outputs_in report = sum_by (λ check. length check.outputs) report.checks

-- ---- the file

abbrev pub line_text : List ℕ → List ℕ
line_text line = line ++ codes "\n"

-- the primary cell, and the database units in a user unit
abbrev pub first_line : (primary : List ℕ) (precision : ℕ) → List ℕ
first_line primary precision = primary ++ codes " " ++ decimal precision ++ codes "\n"

-- how many results are written, how many were found, how many notes there are, and the date
abbrev pub counts_text : (written found notes : ℕ) (date : List ℕ) → List ℕ
counts_text written found notes date =
    decimal written ++ codes " " ++ decimal found ++ codes " " ++ decimal notes ++ codes " " ++ date ++ codes "\n"

-- a check, with the date and the limit of its file
abbrev pub check_text : (date : List ℕ) → Option ℕ → Check → List ℕ
check_text date limit check =
    line_text check.name ++ counts_text (written_of limit check) (found_of check) (length check.notes) date
    ++ flat_map line_text check.notes ++ results_from 1 (take (written_of limit check) (results_of check))

-- the whole file
abbrev pub report_text : Report → List ℕ
report_text report =
    first_line report.primary report.precision ++ flat_map (check_text report.date report.limit) report.checks
