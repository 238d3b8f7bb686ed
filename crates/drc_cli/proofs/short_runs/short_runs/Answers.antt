use Rattle.drc_cli.proofs.ShortRuns.{answered}
use Rattle.drc_cli.proofs.short_runs.short_runs.Goals as goal

pub returns : goal.returns
returns c =
    answered c.args.rects.items c.deref.result.now c.args.bound _ c.in_ok-edges.edges c.runs.result.now c.deref.ensures.value c.runs.ensures.runs c.runs.ensures.form
    c.in_ok-region.ensures c.in_ok-edges.ensures c.shorter_than.result c.shorter_than.ensures
