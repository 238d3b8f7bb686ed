use Rattle.std.proofs.Common.{◌≡◌, false, length, refl, ap, ◌∙◌, arith}
use Rattle.std.specs.Prelude.{get_or}
use Rattle.std.proofs.lemmas.Option.{slice_get-get_or, slice_get-map, slice_get_read}
use Rattle.std.proofs.lemmas.List.{length-map}
use Rattle.std.specs.Option.{option_map}
use Rattle.deck_definitions.specs.Definitions.{shown, entry_of}
use Rattle.deck_definition_facts.proofs.Flags.{one_more, of_all}
use Rattle.deck_definition_facts.proofs.flagged.first_flagged.Goals as goal

pub loop-number-preserved : goal.loop-number-preserved
loop-number-preserved c =
    let n = c.loop-number.number in
    let ds = c.args.definitions.now in
    let flags = c.args.flags.now in
    let d = c.index-definitions-number.result in
    one_more c.args.kind (shown ds) flags n (entry_of d) (get_or flags n false) c.loop-number.first c.fact_of.result c.first_of-first.result
    (slice_get-map entry_of ds n ∙ ap (option_map entry_of) (slice_get_read ds (length ds) n d refl c.loop-number-test.true c.index-definitions-number.is))
    (slice_get-get_or flags n false (let l = c.loop-number-test.true in let k = c.requires in omega (arith)))
    c.fact_of.ensures c.loop-number.invariant c.first_of-first.ensures

pub returns : goal.returns
returns c = of_all c.args.kind (shown c.args.definitions.now) c.args.flags.now c.loop-number.number c.loop-number.first (let e : length (shown c.args.definitions.now) ≡ length c.args.definitions.now = length-map c.args.definitions.now entry_of in let l = c.loop-number-test.false in omega arith) c.loop-number.invariant
