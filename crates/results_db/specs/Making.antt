-- How a report is made: check after check is opened, and output after output is added to the check that is open.
use Rattle.std.specs.Prelude.{ℕ, ◌+◌, List, [], ◌∷◌, ◌++◌, length, take, Option, Some, None}
use Rattle.std.specs.List.{flat_map}
use Rattle.results_db.specs.Results.{Result, results_from}
use Rattle.results_db.specs.Reports.{Check, Report, results_of, found_of, written_of, found_in, written_in, outputs_in, line_text, first_line, check_text}

-- a report of the checks that are closed, and the check that is open, if there is one
pub record Making : Type 0 where
  pub closed : Report
  pub open_check : Option Check

-- the report that is made where no more comes
abbrev pub with_open : Report → Option Check → Report
with_open report None = report
with_open report (Some check) = record report { checks = report.checks ++ check ∷ [] }

abbrev pub finished : Making → Report
finished making = with_open making.closed making.open_check

-- ---- the steps

abbrev pub opened : (primary : List ℕ) (precision : ℕ) (date : List ℕ) → Option ℕ → Making
opened primary precision date limit = record {
  closed = record { primary = primary; precision = precision; date = date; limit = limit; checks = [] };
  open_check = None;
}

-- the open check is closed, and another is open, without outputs
abbrev pub begun : Making → (name : List ℕ) → (notes : List (List ℕ)) → Making
begun making name notes = record {
  closed = finished making;
  open_check = Some (record { name = name; notes = notes; outputs = [] });
}

-- the open check has one more output
abbrev pub output_added : Option Check → List Result → Option Check
output_added None results = None
output_added (Some check) results = Some (record check { outputs = check.outputs ++ results ∷ [] })

abbrev pub with_output : Making → List Result → Making
with_output making results = record making { open_check = output_added making.open_check results }

-- ---- what is kept of a report that is being made: its text, as far as it can stand, and some numbers

-- of the open check: how many notes it has and how many results, and its notes and its written results as text
pub record KeptCheck : Type 0 where
  pub notes : ℕ
  pub found : ℕ
  pub body : List ℕ

-- of all: the text of the closed checks, with the name of the open one, how many results the closed checks found and how
-- many of them are written, and how many outputs there are so far
pub record Kept : Type 0 where
  pub date : List ℕ
  pub limit : Option ℕ
  pub text : List ℕ
  pub found : ℕ
  pub written : ℕ
  pub outputs : ℕ
  pub open_check : Option KeptCheck

abbrev pub name_line : Option Check → List ℕ
name_line None = []
name_line (Some check) = line_text check.name

abbrev pub outputs_of : Option Check → ℕ
outputs_of None = 0
outputs_of (Some check) = length check.outputs

abbrev pub kept_check : Option ℕ → Option Check → Option KeptCheck
kept_check limit None = None
kept_check limit (Some check) = Some (record {
  notes = length check.notes;
  found = found_of check;
  body = flat_map line_text check.notes ++ results_from 1 (take (written_of limit check) (results_of check));
})

abbrev pub kept : Making → Kept
kept making = record {
  date = making.closed.date;
  limit = making.closed.limit;
  text = first_line making.closed.primary making.closed.precision
      ++ flat_map (check_text making.closed.date making.closed.limit) making.closed.checks ++ name_line making.open_check;
  found = found_in making.closed;
  written = written_in making.closed;
  outputs = outputs_in making.closed + outputs_of making.open_check;
  open_check = kept_check making.closed.limit making.open_check;
}
