-- The short runs of the boundary of an area: the maximal runs of what LENGTH keeps of its units, where a length meets the
-- limits that is shorter than a bound, in database units.
use Rattle.std.specs.Prelude.{ℕ, ℤ, Bool, pos, int_lt}
use Rattle.drc_geom.specs.declared.run.Run.{Run}
use Rattle.drc_geom.specs.Squares.{Squares}
use Rattle.drc_geom.specs.Units.{Units, boundary}
use Rattle.drc_geom.specs.Runs.{IsMaximalRun}
use Rattle.drc_geom.specs.Lengths.{IsLength}

abbrev pub is_shorter : (bound : ℕ) → (length : ℤ) → Bool
is_shorter bound length = int_lt length (pos bound)

pub record IsShortRun (squares : Squares) (bound : ℕ) (run : Run) : Type 0 where
  pub kept : Units
  pub units : IsLength (boundary squares) (is_shorter bound) kept
  pub maximal : IsMaximalRun kept run
