-- Runs: stretches of adjacent units with one side, on one line. A run has the columns from lo up to hi.
use Rattle.std.specs.Prelude.{◌≡◌, ◌==◌, ◌&&◌, ◌||◌, ℕ, Bool, true, false, ℤ, ◌<ℤ◌, ◌≤ℤ◌, ◌-ℤ◌, pos, List, [], ◌∷◌}
use Rattle.std.specs.declared.cmp.Ordering.{Ordering}
use Rattle.std.specs.Ordering.{ordering_then, nat_cmp, int_cmp, int_eq}
use Rattle.list_facts.specs.Between.{between}
use Rattle.drc_geom.specs.declared.unit.Side.{Side}
use Rattle.drc_geom.specs.declared.unit.Side.TheVariants.{N, E, S, W}
use Rattle.drc_geom.specs.declared.run.Run.{Run}
use Rattle.drc_geom.specs.Units.{Units, along, across, line_of, column_of, has_unit}

-- a run has a unit
abbrev pub IsRun : Run → Type 0
IsRun run = run.lo <ℤ run.hi

-- how many units a run has
abbrev pub length_of : Run → ℤ
length_of run = run.hi -ℤ run.lo

-- ---- which units runs have

-- horizontal sides before vertical ones, then in the order N, E, S, W
abbrev pub side_rank : Side → ℕ
side_rank N = 0
side_rank S = 1
side_rank E = 2
side_rank W = 3

-- whether a run has the unit with this side, on this line, in this column
abbrev pub run_has : Run → Side → (line column : ℤ) → Bool
run_has run side line column =
    (side_rank run.side == side_rank side) && int_eq run.line line && between run.lo run.hi column

-- whether some run has it
abbrev pub runs_have : List Run → Side → (line column : ℤ) → Bool
runs_have [] side line column = false
runs_have (run ∷ runs) side line column = run_has run side line column || runs_have runs side line column

-- the units that some run has
abbrev pub units_of : List Run → Units
units_of runs x y side = runs_have runs side (line_of side x y) (column_of side x y)

-- ---- which runs units make

-- a run of a set of units that no adjacent unit of the set could make longer
pub record IsMaximalRun (units : Units) (run : Run) : Type 0 where
  pub not_empty : run.lo <ℤ run.hi
  pub inside : (column : ℤ) → run.lo ≤ℤ column → column <ℤ run.hi → has_unit units run.side run.line column ≡ true
  pub before : has_unit units run.side run.line (run.lo -ℤ pos 1) ≡ false
  pub after : has_unit units run.side run.line run.hi ≡ false

-- the run of a unit: the maximal run of the set that has it
pub record IsRunOf (units : Units) (side : Side) (line column : ℤ) (run : Run) : Type 0 where
  pub maximal : IsMaximalRun units run
  pub has : run_has run side line column ≡ true

-- ---- run order

-- the point at which a column begins on a line of a side
abbrev pub end_x : Side → (line column : ℤ) → ℤ
end_x side line column = along side column line

abbrev pub end_y : Side → (line column : ℤ) → ℤ
end_y side line column = across side column line

-- Run order: the lower end first, then the one further left, then the side, then the shorter run.
abbrev pub run_order : Run → Run → Ordering
run_order a b =
    ordering_then (int_cmp (end_y a.side a.line a.lo) (end_y b.side b.line b.lo))
    (ordering_then (int_cmp (end_x a.side a.line a.lo) (end_x b.side b.line b.lo))
    (ordering_then (nat_cmp (side_rank a.side) (side_rank b.side))
    (int_cmp (length_of a) (length_of b))))
