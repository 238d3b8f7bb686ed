use Rattle.std.proofs.Common.{◌≡◌, ◌/◌, ◌++◌, arith, take, drop, ap, sym, ◌∙◌}
use Rattle.std.proofs.lemmas.List.{take-append-drop}
use Rattle.std.proofs.lemmas.Grind.{common_steps}
use Rattle.std.specs.Global.{Vec}
use Rattle.chunked_list.specs.Chunks.{joined}
use Rattle.chunked_list.proofs.Places.{items_at, joined_insert}
use Rattle.chunked_list.proofs.put.cut.Goals as goal

pub returns-clause-items : goal.returns-clause-items
returns-clause-items g c =
    let X = g.row.T.Denot in
    let long = c.index_mut-long.result.now in
    let half = c.len-half.result / 2 in
    let cs = c.args.chunks.now.items in
    let e = ap (λ (v : Vec X). v.items) c.index_mut-long.ensures.value ∙ sym (items_at cs c.args.chunk long c.requires) in
    let behind : c.extend_from_slice.new.self.items ≡ drop half long.items = grind (arith, common_steps) in
    ap joined c.in_ok-insert.ensures.items
    ∙ joined_insert cs c.args.chunk c.truncate.new.self c.extend_from_slice.new.self c.requires (ap (λ xs. xs ++ c.extend_from_slice.new.self.items) c.truncate.ensures.items ∙ (ap (λ xs. take half long.items ++ xs) behind ∙ (take-append-drop half long.items ∙ e)))
