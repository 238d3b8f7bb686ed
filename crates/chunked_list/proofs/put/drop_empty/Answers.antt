use Rattle.std.proofs.Common.{rules, tests, ap, sym, subst, ◌∙◌}
use Rattle.std.proofs.lemmas.Fn.{filter_same}
use Rattle.chunked_list.specs.Chunks.{joined, AreFull}
use Rattle.chunked_list.proofs.Places.{has_items, joined_filter, full_filter}
use Rattle.chunked_list.proofs.put.drop_empty.Goals as goal

pub returns-clause-items : goal.returns-clause-items
returns-clause-items g c =
    let kept = filter_same _ has_items _ (λ x b f k. search (rules, tests)) _ _ c.retain.ensures.filtered in
    ap joined kept ∙ joined_filter c.args.chunks.now.items

pub returns-clause-full : goal.returns-clause-full
returns-clause-full g c =
    let kept = filter_same _ has_items _ (λ x b f k. search (rules, tests)) _ _ c.retain.ensures.filtered in
    subst AreFull (sym kept) (full_filter c.args.chunks.now.items)
