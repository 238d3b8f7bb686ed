use Rattle.std.proofs.Common.{◌+◌, ◌<◌, ◌≤◌, ◌++◌, length, arith, ap, subst, ◌∙◌}
use Rattle.std.proofs.lemmas.Bool.Decides.{nat_tests}
use Rattle.std.proofs.lemmas.List.{take_rest}
use Rattle.std.specs.List.{before_first, position_or_len}
use Rattle.chunked_list.proofs.Places.{copied_all, copied_on}
use Rattle.chunked_list.proofs.chunk.copy_from.Goals as goal

pub returns-in_ok-copy_fronts : goal.returns-in_ok-copy_fronts
returns-in_ok-copy_fronts g c =
    let cs = c.args.chunks.now in
    let place = c.args.place in
    let q = g.Q.Test.passed_by c.args.behind.now in
    let its = c.items_behind.result.now in
    let passed : length its ≤ position_or_len q its = grind (arith, nat_tests) in
    let e = c.in_ok-copy_front.ensures.items ∙ ap (λ xs. c.args.out.now.items ++ before_first q xs) c.items_behind.ensures in
    copied_on q cs place.chunk place.item c.args.out.now.items _ _ _ e (subst (λ xs. length xs ≤ position_or_len q xs) c.items_behind.ensures passed) (take_rest cs (place.chunk + 1)) c.in_ok-copy_fronts.ensures

pub returns-else-not-branch : goal.returns-else-not-branch
returns-else-not-branch g c =
    let cs = c.args.chunks.now in
    let place = c.args.place in
    let q = g.Q.Test.passed_by c.args.behind.now in
    let its = c.items_behind.result.now in
    let ended : position_or_len q its < length its = grind (arith, nat_tests) in
    let e = c.in_ok-copy_front.ensures.items ∙ ap (λ xs. c.args.out.now.items ++ before_first q xs) c.items_behind.ensures in
    copied_all q cs place.chunk place.item c.args.out.now.items _ e (subst (λ xs. position_or_len q xs < length xs) c.items_behind.ensures ended)
