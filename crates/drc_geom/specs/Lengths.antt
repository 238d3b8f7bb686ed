-- LENGTH: of a set of units those whose run has a length that meets some limits. The run of a unit is the maximal run of
-- the set that has it, and a length is a number of units.
use Rattle.std.specs.Prelude.{◌≡◌, ◌↔◌, Bool, true, ℤ}
use Rattle.drc_geom.specs.declared.unit.Side.{Side}
use Rattle.drc_geom.specs.declared.run.Run.{Run}
use Rattle.drc_geom.specs.Units.{Units, has_unit}
use Rattle.drc_geom.specs.Runs.{length_of, IsRunOf}

-- the unit's run has a length that meets the limits
pub record IsKept (units : Units) (meets : ℤ → Bool) (side : Side) (line column : ℤ) : Type 0 where
  pub run : Run
  pub of : IsRunOf units side line column run
  pub length : meets (length_of run) ≡ true

-- `kept` has these units and no others
pub record IsLength (units : Units) (meets : ℤ → Bool) (kept : Units) : Type 0 where
  pub each : (side : Side) (line column : ℤ) → (has_unit kept side line column ≡ true) ↔ IsKept units meets side line column
