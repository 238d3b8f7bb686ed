use Rattle.std.proofs.Common.{rules, tests, length, ◌∙◌, ap}
use Rattle.std.proofs.lemmas.Iterator.{YieldsList-from_slice}
use Rattle.std.proofs.lemmas.Iterator.Search.{position_from_yields_List}
use Rattle.std.specs.Option.{unwrap_or}
use Rattle.chunked_list.proofs.Stretches.{place_or_length, place_within}
use Rattle.chunked_list.proofs.search.place_of.Goals as goal

pub returns : goal.returns
returns g c =
    let xs = c.args.items.now in
    let passed = g.P.Test.passed_by c.args.test.now in
    let e = position_from_yields_List passed _ _ c.position.result c.position.ensures.ran (YieldsList-from_slice xs cc) (λ x b q k. search (rules, tests)) in
    c.unwrap_or.ensures ∙ (ap (λ o. unwrap_or o (length xs)) e ∙ place_or_length _ _ (place_within passed xs))
