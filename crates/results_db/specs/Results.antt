-- A result as it is written: a line with its letter, its number and how many lines of coordinates follow, and these.
--
--     e 2 1
--     0 300 100 300
use Rattle.std.specs.Prelude.{ℕ, ◌+◌, ℤ, List, [], ◌∷◌, ◌++◌, codes}
use Rattle.std.specs.Fmt.{decimal, signed_decimal}
use Rattle.drc_geom.specs.declared.run.Run.{Run}
use Rattle.drc_geom.specs.Runs.{end_x, end_y}

-- a result of a check
pub data Result : Type 0 where
  run : Run → Result

-- how many lines of coordinates it takes, with the line before them
abbrev pub lines_of : Result → ℕ
lines_of (run of) = 2

abbrev pub point_text : (x y : ℤ) → List ℕ
point_text x y = signed_decimal x ++ codes " " ++ signed_decimal y

-- a line from one point to another
abbrev pub ends_text : (x1 y1 x2 y2 : ℤ) → List ℕ
ends_text x1 y1 x2 y2 = point_text x1 y1 ++ codes " " ++ point_text x2 y2 ++ codes "\n"

-- the lower or left end of a run, then the other
abbrev pub run_text : Run → List ℕ
run_text of =
    ends_text (end_x of.side of.line of.lo) (end_y of.side of.line of.lo)
    (end_x of.side of.line of.hi) (end_y of.side of.line of.hi)

-- a result as number k
abbrev pub result_text : (k : ℕ) → Result → List ℕ
result_text k (run of) = codes "e " ++ decimal k ++ codes " 1\n" ++ run_text of

-- results as the numbers k, k + 1 and so on
abbrev pub results_from : (k : ℕ) → List Result → List ℕ
results_from k [] = []
results_from k (result ∷ results) = result_text k result ++ results_from (k + 1) results
