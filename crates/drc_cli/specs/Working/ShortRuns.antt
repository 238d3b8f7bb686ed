-- Working words of the short runs: the list that is taken from that of all maximal runs.
use Rattle.std.specs.Prelude.{ℕ, List, filter}
use Rattle.drc_geom.specs.declared.run.Run.{Run}
use Rattle.drc_geom.specs.Runs.{length_of}
use Rattle.drc_cli.specs.ShortRuns.{is_shorter}

-- the runs of a list that are shorter than the bound
abbrev pub short_of : (bound : ℕ) → List Run → List Run
short_of bound runs = filter (λ run. is_shorter bound (length_of run)) runs
