-- The runs of a list that meet limits.
use Rattle.std.specs.Prelude.{List}
use Rattle.std.specs.List.{filter}
use Rattle.drc_geom.specs.declared.run.Run.{Run}
use Rattle.drc_geom.specs.Runs.{length_of}
use Rattle.layer_model.specs.declared.limits.Limits.{Limits}
use Rattle.edge_select.specs.LengthLimits.{meets_length}

abbrev pub whole_runs : Limits → List Run → List Run
whole_runs limits runs = filter (λ run. meets_length limits (length_of run)) runs
