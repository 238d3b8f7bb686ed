use Rattle.drc_geom.proofs.Lengths.{one_length, kept_run, run_kept}
use Rattle.drc_geom.proofs.length.length_keeps_whole_runs.Goals as goal

pub returns-clause-one : goal.returns-clause-one
returns-clause-one c = one_length

pub returns-clause-runs : goal.returns-clause-runs
returns-clause-runs c = λ units meets kept is run. (
  λ m. let whole = run_kept units kept meets is run m in (whole.maximal, whole.length),
  λ w. kept_run units kept meets is run (record { maximal = w.0; length = w.1 }),
)
