use Rattle.std.proofs.Common.{◌<◌, ◌≤◌, length, arith, ap, ◌∙◌}
use Rattle.std.specs.List.{position_or_len}
use Rattle.std.specs.Global.{Vec}
use Rattle.std.proofs.lemmas.Bool.Decides.{nat_tests}
use Rattle.chunked_list.proofs.Places.{front_ends, front_goes_on}
use Rattle.chunked_list.proofs.chunk.copy_fronts.Goals as goal

pub returns-then-branch : goal.returns-then-branch
returns-then-branch g c =
    let X = g.row.T.Denot in
    let its = c.deref.result.now in
    let q = g.Q.Test.passed_by c.args.behind.now in
    let ended : position_or_len q its < length its = grind (arith, nat_tests) in
    front_ends q c.args.chunks.now c.loop-chunk.chunk-index its c.loop-chunk.out.items _ _ c.chunk-item.result c.loop-chunk-test.true (c.deref.ensures.value ∙ ap (λ (v : Vec X). v.items) c.chunk-item.is) c.loop-chunk.invariant c.in_ok-copy_front.ensures.items ended

pub loop-chunk-preserved : goal.loop-chunk-preserved
loop-chunk-preserved g c =
    let X = g.row.T.Denot in
    let its = c.deref.result.now in
    let q = g.Q.Test.passed_by c.args.behind.now in
    let passed : length its ≤ position_or_len q its = grind (arith, nat_tests) in
    front_goes_on q c.args.chunks.now c.loop-chunk.chunk-index its c.loop-chunk.out.items _ _ c.chunk-item.result c.loop-chunk-test.true (c.deref.ensures.value ∙ ap (λ (v : Vec X). v.items) c.chunk-item.is) c.loop-chunk.invariant c.in_ok-copy_front.ensures.items passed
