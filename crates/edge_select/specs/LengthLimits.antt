-- Which lengths of runs meet limits. A length is a number of units, and that of a run is above 0.
use Rattle.std.specs.Prelude.{Bool, ℤ, unsigned_abs}
use Rattle.layer_model.specs.declared.limits.Limits.{Limits}
use Rattle.layer_model.specs.Limits.{meets}

abbrev pub meets_length : Limits → (length : ℤ) → Bool
meets_length limits length = meets limits (unsigned_abs length)
