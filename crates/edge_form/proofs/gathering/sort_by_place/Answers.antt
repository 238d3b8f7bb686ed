use Rattle.std.proofs.Common.{rules}
use Rattle.std.proofs.lemmas.List.Sorted.{ranks_by, answers_always}
use Rattle.std.specs.Ordering.{is_lt}
use Rattle.list_facts.proofs.Members.{all_permuted}
use Rattle.drc_geom.specs.Runs.{IsRun}
use Rattle.drc_geom.proofs.RunUnits.{units_permuted}
use Rattle.edge_form.specs.Working.Gathering.{place_order}
use Rattle.edge_form.proofs.PieceOrder.{place_order_total}
use Rattle.edge_form.proofs.gathering.sort_by_place.Goals as goal

pub returns : goal.returns
returns c =
    let s = c.sort_unstable_by.ensures in
    record {
      not_empty = all_permuted IsRun _ _ s.permutation c.requires;
      sorted = s.sorted (λ a b. is_lt (place_order a b)) (ranks_by place_order_total (λ r. r)) (answers_always _ _ _ (λ f a r g h. search rules));
      units = units_permuted _ _ s.permutation;
    }
