use Rattle.std.proofs.Common.{rules, tests, int_lt, length, ◌∙◌, ap}
use Rattle.std.proofs.lemmas.Iterator.{YieldsList-from_slice}
use Rattle.std.proofs.lemmas.Iterator.Search.{position_from_yields_List}
use Rattle.std.specs.Option.{unwrap_or}
use Rattle.chunked_list.proofs.Stretches.{place_or_length, place_within}
use Rattle.region_form.specs.declared.flip.Flip.{Flip}
use Rattle.region_sweep.proofs.upwards.count_up_to.Goals as goal

pub returns : goal.returns
returns c =
    let xs = c.args.flips.now in
    let above = λ (f : Flip). int_lt c.args.line f.y in
    let e = position_from_yields_List above _ _ c.position.result c.position.ensures.ran (YieldsList-from_slice xs cc) (λ x b q k. search (rules, tests)) in
    c.unwrap_or.ensures ∙ (ap (λ o. unwrap_or o (length xs)) e ∙ place_or_length _ _ (place_within above xs))
