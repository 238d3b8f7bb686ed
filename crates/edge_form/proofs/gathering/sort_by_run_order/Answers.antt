use Rattle.drc_geom.proofs.RunUnits.{units_permuted}
use Rattle.edge_form.proofs.Spaced.{edge_set_from_spaced}
use Rattle.edge_form.proofs.gathering.sort_by_run_order.Goals as goal

pub returns : goal.returns
returns c =
    let s = c.sort_unstable.ensures in
    record {
      form = edge_set_from_spaced _ _ c.requires.not_empty c.requires.spaced s.permutation s.sorted;
      units = units_permuted _ _ s.permutation;
    }
