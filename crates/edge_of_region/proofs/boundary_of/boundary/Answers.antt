use Rattle.std.proofs.Common.{sym, ap, ◌∙◌}
use Rattle.list_facts.proofs.Members.{all_weaker}
use Rattle.drc_geom.specs.Runs.{IsMaximalRun, units_of}
use Rattle.drc_geom.specs.Units.{boundary}
use Rattle.drc_geom.proofs.Boundaries.{maximal_same}
use Rattle.region_form.specs.Flips.{squares}
use Rattle.edge_of_region.proofs.boundary_of.boundary.Goals as goal

pub of_whole-requires : goal.of_whole-requires
of_whole-requires c =
    let told = c.in_ok-runs.ensures in
    let units = boundary (squares c.flips.result.now) in
    let runs = c.in_ok-runs.runs.items in
    all_weaker (IsMaximalRun units) (IsMaximalRun (units_of runs)) (λ r m. maximal_same units (units_of runs) r (λ x y side. sym (told.units x y side)) m) runs told.maximal

pub returns : goal.returns
returns c =
    λ x y side.
    c.of_whole.ensures x y side
    ∙ (c.in_ok-runs.ensures.units x y side ∙ ap (λ fs. boundary (squares fs) x y side) c.flips.ensures.flips)
