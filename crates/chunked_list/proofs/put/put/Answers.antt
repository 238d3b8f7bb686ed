use Rattle.std.proofs.Common.{◌≡◌, ◌+◌, ◌-◌, ◌<◌, ◌≤◌, ◌++◌, length, take, arith, ap, sym, ◌∙◌}
use Rattle.std.proofs.lemmas.List.{take-append-drop}
use mathlib.Core.Bool.{true≢false}
use Rattle.chunked_list.specs.Working.Places.{items_of}
use Rattle.chunked_list.proofs.Places.{over_goes_on, over_count, over_more, over_full, over_last}
use Rattle.chunked_list.proofs.put.put.Goals as goal
use Rattle.chunked_list.proofs.put.put.Goals.{then-emptied, else-emptied}

pub loop-count-preserved : goal.loop-count-preserved
loop-count-preserved g c =
    let l = c.loop-count in
    let inv = c.loop-count.invariant in
    let cs = l.chunks.items in
    let gone = c.room_behind-gone.result in
    let over = c.in_ok-is_empty.ensures.items in
    let all : gone ≡ length (items_of cs l.chunk) - l.place = c.room_behind-gone.ensures ∙ ap (λ bs. length (items_of bs l.chunk) - l.place) c.deref-in-loop-count.ensures.value in
    let room = c.room_behind.ensures ∙ ap (λ bs. length (items_of bs l.chunk) - l.place) c.deref.ensures.value in
    let less : gone < l.count = omega arith in
    let joins = ap (λ xs. xs ++ c.split_at.result.1.now) c.split_at.ensures.front ∙ (ap (λ xs. take c.min.result l.left.now ++ xs) c.split_at.ensures.back ∙ take-append-drop c.min.result l.left.now) in (
      over_goes_on cs l.chunk l.place l.count gone c.split_at.result.0.now c.split_at.result.1.now l.left.now _ inv.0 inv.1 all less inv.2 over,
      omega arith,
      over_count cs l.chunk l.place l.count gone c.split_at.result.0.now c.split_at.result.1.now l.left.now _ inv.0 inv.1 all less inv.2 over,
      over_more cs l.chunk l.place l.count gone c.split_at.result.0.now c.split_at.result.1.now l.left.now _ inv.0 inv.1 all less inv.2 over joins ∙ inv.3,
      elim c.if-emptied.branch [
        | then-emptied w ↦ λ e. absurd (true≢false (sym w.if-emptied.true ∙ (sym w.emptied-is ∙ e)))
        | else-emptied w ↦ λ e. over_full cs l.chunk l.place gone _ inv.0 c.split_at.result.0.now over (inv.4 w.if-emptied.false) (c.in_ok-is_empty.ensures.empty (sym w.emptied-is ∙ e))
      ],
    )

pub returns-then-emptied-2-clause-items : goal.returns-then-emptied-2-clause-items
returns-then-emptied-2-clause-items g c =
    let l = c.loop-count in
    let inv = c.loop-count.invariant in
    let room : l.place + l.count ≤ length (items_of l.chunks.items l.chunk) =
    let e = c.room_behind.ensures ∙ ap (λ bs. length (items_of bs l.chunk) - l.place) c.deref.ensures.value in omega arith in
    over_last l.chunks.items l.chunk l.place l.count _ inv.0 l.left.now c.in_ok-is_empty-2.ensures.items room ∙ inv.3

pub returns-else-emptied-2-clause-items : goal.returns-else-emptied-2-clause-items
returns-else-emptied-2-clause-items g c =
    let l = c.loop-count in
    let inv = c.loop-count.invariant in
    let room : l.place + l.count ≤ length (items_of l.chunks.items l.chunk) =
    let e = c.room_behind.ensures ∙ ap (λ bs. length (items_of bs l.chunk) - l.place) c.deref.ensures.value in omega arith in
    over_last l.chunks.items l.chunk l.place l.count _ inv.0 l.left.now c.in_ok-is_empty-2.ensures.items room ∙ inv.3

pub returns-else-emptied-2-clause-full : goal.returns-else-emptied-2-clause-full
returns-else-emptied-2-clause-full g c =
    let l = c.loop-count in
    let inv = c.loop-count.invariant in
    λ e. over_full l.chunks.items l.chunk l.place l.count _ inv.0 l.left.now c.in_ok-is_empty-2.ensures.items (inv.4 c.if-emptied-2.false) (c.in_ok-is_empty-2.ensures.empty e)
