-- The one form of a set of units as a list of runs.
use Rattle.std.specs.Prelude.{◌≡◌, false, ℤ, pos, ◌-ℤ◌, ◌≤ℤ◌, List}
use Rattle.std.specs.List.{AllByRecursion}
use Rattle.std.specs.List.Sorted.{IsStrictlySortedBy}
use Rattle.drc_geom.specs.declared.run.Run.{Run}
use Rattle.drc_geom.specs.Units.{has_unit}
use Rattle.drc_geom.specs.Runs.{IsMaximalRun, run_order, units_of}

-- The form of a set of units: its maximal runs, each once, in run order.
pub record IsEdgeSet (runs : List Run) : Type 0 where
  pub ordered : IsStrictlySortedBy run_order runs
  pub maximal : AllByRecursion (IsMaximalRun (units_of runs)) runs

-- the list has none of the run's units, nor the unit before them or the one behind them
abbrev pub IsClearOf : List Run → Run → Type 0
IsClearOf runs r = (column : ℤ) → (r.lo -ℤ pos 1) ≤ℤ column → column ≤ℤ r.hi → has_unit (units_of runs) r.side r.line column ≡ false
