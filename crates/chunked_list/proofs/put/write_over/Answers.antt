use Rattle.std.proofs.Common.{◌+◌, ◌++◌, take, drop, arith, refl, ap, sym, ◌∙◌}
use Rattle.std.proofs.lemmas.Grind.{common_steps}
use Rattle.std.specs.Global.{Vec}
use Rattle.chunked_list.proofs.Places.{items_at, items_set}
use Rattle.chunked_list.proofs.put.write_over.Goals as goal

pub returns-clause-items : goal.returns-clause-items
returns-clause-items g c =
    let X = g.row.T.Denot in
    let place = c.args.place in
    let chunk = c.index_mut-written.result.now in
    let e = ap (λ (v : Vec X). v.items) c.index_mut-written.ensures.value ∙ sym (items_at c.args.chunks.now.items c.args.chunk chunk c.requires.chunk) in
    record {
      written = c.replace_items.new.chunk;
      set = refl;
      items = c.in_ok-replace_items.ensures ∙ ap (λ xs. take place xs ++ c.args.with.now ++ drop (place + c.args.count) xs) e;
    }

pub returns-clause-empty : goal.returns-clause-empty
returns-clause-empty g c = grind (arith, common_steps, items_set)
