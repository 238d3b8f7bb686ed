use Rattle.std.proofs.Common.{rules}
use Rattle.edge_form.proofs.Joining.{gathered}
use Rattle.edge_form.proofs.PieceOrder.{in_order_from_sorted}
use Rattle.edge_form.proofs.gathering.join.Goals as goal

pub returns : goal.returns
returns c =
    let g = gathered _ (λ f x k b f' x' k' h. record { told = search rules; piece = search rules; run = search rules }) _ _ _ c.requires.not_empty (in_order_from_sorted _ c.requires.sorted) c.dedup_by.ensures.filtered in
    record {
      not_empty = g.not_empty;
      spaced = g.spaced;
      units = λ x y side. g.units side _ _;
    }
