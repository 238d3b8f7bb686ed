use Rattle.std.proofs.Common.{◌≡◌, ◌∙◌, sym, subst}
use Rattle.std.specs.Prelude.{Result, Ok, Err, IfOk, List}
use Rattle.drc_geom.specs.declared.run.Run.{Run}
use Rattle.edge_select.proofs.Kept.{answered}
use Rattle.edge_select.proofs.by_length.length.Goals as goal

pub returns : goal.returns
returns c = answered c.args.limits.now c.args.edges.now c.runs.result.now c.runs.ensures.runs c.runs.ensures.form c.kept_runs.result c.kept_runs.ensures
