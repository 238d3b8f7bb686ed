use Rattle.std.proofs.Common.{◌-◌, ◌∙◌, sym, ap, length, ℕ, arith}
use Rattle.std.proofs.lemmas.Grind.{common_steps}
use Rattle.std.proofs.lemmas.Option.{slice_get-get_or, slice_get_past}
use Rattle.std.specs.Prelude.{slice_get, slice_index_or}
use Rattle.std.specs.Global.{Vec}
use Rattle.deck_order.specs.declared.step.Step.{Step}
use Rattle.deck_order.specs.Uses.{used_by}
use Rattle.deck_order.proofs.Lasts.{at_last, used_here}
use Rattle.deck_order.proofs.Looking.{one_more_use}
use Rattle.deck_order.proofs.look.next_use.Goals as goal

pub bounds-uses-last : goal.bounds-uses-last
bounds-uses-last c = c.requires.there _ (at_last c.args.path.now _ c.requires.way)

pub returns-then-last-used-clause-next : goal.returns-then-last-used-clause-next
returns-then-last-used-clause-next c = λ f last.
    let here = at_last c.args.path.now (record { definition = 0; at = 0; next = 0 }) c.requires.way in
    let same = one_more_use c.args.path.now _ here f last in
    let there = c.requires.there _ here in
    let l = c.if-last-used.true in
    sym (slice_get-get_or c.deref-used.result.now (slice_index_or c.args.path.now (length c.args.path.now - 1) (record { definition = 0; at = 0; next = 0 })).next 0 (grind (arith, common_steps)))
    ∙ (ap (λ xs. slice_get xs (slice_index_or c.args.path.now (length c.args.path.now - 1) (record { definition = 0; at = 0; next = 0 })).next) (c.deref-used.ensures.value ∙ (ap (λ (v : Vec ℕ). v.items) c.index-uses-last.is ∙ sym (used_here c.args.uses.now _ c.index-uses-last.result there)))
    ∙ ap (λ (x : Step). slice_get (used_by c.args.uses.now x.definition) x.next) (sym same))

pub returns-then-last-used-clause-room : goal.returns-then-last-used-clause-room
returns-then-last-used-clause-room c = λ f last.
    let here = at_last c.args.path.now (record { definition = 0; at = 0; next = 0 }) c.requires.way in
    let same = ap (λ (x : Step). x.next) (one_more_use c.args.path.now _ here f last) in
    let l = c.if-last-used.true in
    let t = c.deref-used.type_inv in
    grind (arith, common_steps)

pub returns-else-last-used-clause-next : goal.returns-else-last-used-clause-next
returns-else-last-used-clause-next c = λ f last.
    let here = at_last c.args.path.now (record { definition = 0; at = 0; next = 0 }) c.requires.way in
    let same = one_more_use c.args.path.now _ here f last in
    let there = c.requires.there _ here in
    let l = c.if-last-used.false in
    sym (slice_get_past c.deref-used.result.now (slice_index_or c.args.path.now (length c.args.path.now - 1) (record { definition = 0; at = 0; next = 0 })).next (grind (arith, common_steps)))
    ∙ (ap (λ xs. slice_get xs (slice_index_or c.args.path.now (length c.args.path.now - 1) (record { definition = 0; at = 0; next = 0 })).next) (c.deref-used.ensures.value ∙ (ap (λ (v : Vec ℕ). v.items) c.index-uses-last.is ∙ sym (used_here c.args.uses.now _ c.index-uses-last.result there)))
    ∙ ap (λ (x : Step). slice_get (used_by c.args.uses.now x.definition) x.next) (sym same))
