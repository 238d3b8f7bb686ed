use Rattle.std.proofs.Common.{length, arith, ap, sym, ◌∙◌}
use Rattle.std.proofs.lemmas.List.{length-take-le}
use Rattle.std.specs.Global.{Vec}
use Rattle.chunked_list.proofs.Places.{items_at}
use Rattle.chunked_list.proofs.chunk.item_before.Goals as goal

pub slice_bounds-last-end : goal.slice_bounds-last-end
slice_bounds-last-end g c =
    let X = g.row.T.Denot in
    let its = c.as_slice-chunk.result.now in
    let e = ap length (c.as_slice-chunk.ensures.value ∙ (ap (λ (v : Vec X). v.items) c.index-chunks-place.is ∙ sym (items_at c.args.chunks.now c.args.place.chunk c.index-chunks-place.result c.requires.chunk))) in
    sym (length-take-le c.args.place.item its (omega arith))
