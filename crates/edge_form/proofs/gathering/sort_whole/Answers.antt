use Rattle.std.proofs.Common.{true, ap, sym, ◌∙◌}
use Rattle.std.proofs.lemmas.List.Filters.{dedup_is}
use Rattle.std.specs.Cmp.{Equal-is, tied_itself}
use Rattle.std.specs.Ordering.{is_eq}
use Rattle.drc_geom.specs.Runs.{run_order}
use Rattle.drc_geom.specs.RunOrder.{run_order_matches_eq, run_order_ties, run_order_total}
use Rattle.edge_form.proofs.Deduped.{deduped_form, deduped_units}
use Rattle.edge_form.proofs.gathering.sort_whole.Goals as goal

pub returns : goal.returns
returns c =
    let s = c.sort_unstable.ensures in
    record {
      form = deduped_form _ (λ a b e. run_order_ties a b ((Equal-is (run_order a b)).0 (sym (run_order_matches_eq a b) ∙ e))) (λ a. run_order_matches_eq a a ∙ ap is_eq (tied_itself run_order_total a)) _ _ _ s.permutation s.sorted (dedup_is _ _ _ c.dedup.ensures.filtered) c.requires;
      units = deduped_units _ (λ a b e. run_order_ties a b ((Equal-is (run_order a b)).0 (sym (run_order_matches_eq a b) ∙ e))) (λ a. run_order_matches_eq a a ∙ ap is_eq (tied_itself run_order_total a)) _ _ _ s.permutation s.sorted (dedup_is _ _ _ c.dedup.ensures.filtered);
    }
