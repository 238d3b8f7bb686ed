use Rattle.std.proofs.Common.{drop, ap, sym, ◌∙◌}
use Rattle.std.proofs.lemmas.List.{take_rest}
use Rattle.std.specs.Global.{Vec}
use Rattle.chunked_list.proofs.Places.{items_at}
use Rattle.chunked_list.proofs.chunk.items_behind.Goals as goal

pub returns : goal.returns
returns g c =
    let X = g.row.T.Denot in
    let its = c.as_slice-chunk.result.now in
    let e = c.as_slice-chunk.ensures.value ∙ (ap (λ (v : Vec X). v.items) c.index-chunks-place.is ∙ sym (items_at c.args.chunks.now c.args.place.chunk c.index-chunks-place.result c.requires.chunk)) in
    take_rest its c.args.place.item ∙ ap (drop c.args.place.item) e
