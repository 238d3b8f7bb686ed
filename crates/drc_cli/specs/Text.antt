-- Text: the bytes of the results file, and of the line that a check says. Every line ends in LF, and numbers are decimal.
-- The file has a line `PRIMARY PRECISION`, and then check by check its name, a line `WRITTEN FOUND NOTES DATE`, its notes,
-- one to a line, and the first WRITTEN of its FOUND results, numbered from 1. NOTES is the number of its notes.
--
--     TOP 1000
--     SHORT
--     2 2 1 Jan 1 00:00:00 1970
--     short edge
--     e 1 1
--     0 0 100 0
--     e 2 1
--     0 300 100 300
use Rattle.std.specs.Prelude.{ℕ, ◌+◌, min, ℤ, List, [], ◌∷◌, ◌++◌, length, take, codes}
use Rattle.std.specs.List.{flat_map, sum_by}
use Rattle.std.specs.Fmt.{decimal, signed_decimal}
use Rattle.drc_geom.specs.declared.run.Run.{Run}
use Rattle.drc_geom.specs.Runs.{end_x, end_y}

-- a result of a check
pub data Result : Type 0 where
  run : Run → Result

-- what a check writes: its name, its notes, the most results that are written, the date, and all results that it found
pub record CheckResults : Type 0 where
  pub name : List ℕ
  pub notes : List (List ℕ)
  pub limit : ℕ
  pub date : List ℕ
  pub results : List Result

-- how many results a check found, and how many of them are written
abbrev pub found_of : CheckResults → ℕ
found_of check = length check.results

abbrev pub written_of : CheckResults → ℕ
written_of check = min (found_of check) check.limit

-- ---- the results file

abbrev pub line_text : List ℕ → List ℕ
line_text line = line ++ codes "\n"

abbrev pub point_text : (x y : ℤ) → List ℕ
point_text x y = signed_decimal x ++ codes " " ++ signed_decimal y

-- a line from one point to another
abbrev pub ends_text : (x1 y1 x2 y2 : ℤ) → List ℕ
ends_text x1 y1 x2 y2 = point_text x1 y1 ++ codes " " ++ point_text x2 y2 ++ codes "\n"

-- the lower or left end of a run, then the other
abbrev pub run_text : Run → List ℕ
run_text of =
    ends_text (end_x of.side of.line of.lo) (end_y of.side of.line of.lo)
    (end_x of.side of.line of.hi) (end_y of.side of.line of.hi)

-- a result as number k
abbrev pub result_text : (k : ℕ) → Result → List ℕ
result_text k (run of) = codes "e " ++ decimal k ++ codes " 1\n" ++ run_text of

-- results as the numbers k, k + 1 and so on
abbrev pub results_from : (k : ℕ) → List Result → List ℕ
results_from k [] = []
results_from k (result ∷ results) = result_text k result ++ results_from (k + 1) results

-- how many results are written, how many were found, how many notes there are, and the date
abbrev pub counts_text : CheckResults → List ℕ
counts_text check =
    decimal (written_of check) ++ codes " " ++ decimal (found_of check) ++ codes " " ++ decimal (length check.notes)
    ++ codes " " ++ check.date ++ codes "\n"

abbrev pub check_text : CheckResults → List ℕ
check_text check =
    line_text check.name ++ counts_text check ++ flat_map line_text check.notes
    ++ results_from 1 (take (written_of check) check.results)

-- the primary cell, and the database units in a user unit
abbrev pub first_line : (primary : List ℕ) (precision : ℕ) → List ℕ
first_line primary precision = primary ++ codes " " ++ decimal precision ++ codes "\n"

-- the whole file
abbrev pub results_text : (primary : List ℕ) (precision : ℕ) → List CheckResults → List ℕ
results_text primary precision checks = first_line primary precision ++ flat_map check_text checks

-- ---- the line that is said

-- how many checks there are, and how many results they found and wrote together
abbrev pub said_text : List CheckResults → List ℕ
said_text checks =
    codes "checks " ++ decimal (length checks) ++ codes " found " ++ decimal (sum_by found_of checks)
    ++ codes " written " ++ decimal (sum_by written_of checks) ++ codes "\n"
