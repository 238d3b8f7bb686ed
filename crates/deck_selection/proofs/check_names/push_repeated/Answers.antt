use Rattle.std.proofs.Common.{◌≡◌, length, Some, refl, ap, ◌∙◌}
use Rattle.std.specs.Prelude.{◌||◌, nat_eq, slice_get}
use Rattle.std.specs.Cmp.Lexicographic.{pointwise}
use Rattle.std.specs.Option.{option_map}
use Rattle.std.proofs.lemmas.Option.{slice_get-map, slice_get_read}
use Rattle.deck_selection.specs.Working.NameSets.{has, names_shown}
use Rattle.deck_selection.proofs.Repeating.{one_fact, one_known}
use Rattle.deck_selection.proofs.check_names.push_repeated.Goals as goal

pub loop-name-preserved : goal.loop-name-preserved
loop-name-preserved c =
    let n = c.loop-name.name-index in
    let names = c.args.names.now in
    let shown = names_shown names in
    let x = c.name-item.result.now in
    let here : slice_get shown n ≡ Some x = slice_get-map (λ name. name.now) names n ∙ ap (option_map (λ name. name.now)) (slice_get_read names (length names) n c.name-item.result refl c.loop-name-test.true c.name-item.is) in (
      one_fact shown n x here c.loop-name.facts.items c.push_if.new.facts.items _ c.has-is_repeated.result (c.has-is_repeated.ensures ∙ (ap (has c.loop-name.known) c.bytes.ensures ∙ c.loop-name.invariant.1 x.name)) c.in_ok-push_if.ensures c.loop-name.invariant.0,
      λ q. one_known shown n x here q (has c.loop-name.known q) (has c.add.new.self q) (c.in_ok-add.ensures q ∙ ap (λ b. has c.loop-name.known q || pointwise nat_eq q b) c.bytes-in-loop-name.ensures) (c.loop-name.invariant.1 q),
    )
