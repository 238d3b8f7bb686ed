use Rattle.std.proofs.Common.{◌≡◌, ◌↔◌, inl, inr, ◌+◌, ◌++◌, ◌∷◌, [], Bool, true, List, Some, drop, length, map, refl, sym, ap, subst, ◌∙◌, arith}
use Rattle.std.specs.Prelude.{slice_get}
use Rattle.std.specs.Option.{option_map}
use Rattle.std.proofs.lemmas.List.{length-map, drop_more}
use Rattle.std.proofs.lemmas.Option.{slice_get-map, slice_get_read}
use Rattle.list_facts.proofs.Slots.{longer, one_more}
use Rattle.deck_names.specs.Definitions.{Known, definition}
use Rattle.deck_names.specs.declared.definition.Definition.{Definition}
use Rattle.deck_definitions.specs.Definitions.{shown, entry_of}
use Rattle.deck_graph.specs.Graphs.{key_of, IsRepeated, StandAtPlaces}
use Rattle.deck_graph.specs.Kept.{kept_key}
use Rattle.deck_graph.proofs.Repeating.{tells, one_defined, rest_stands, all_defined}
use Rattle.deck_graph.proofs.naming.define_all.Goals as goal

pub loop-one-preserved : goal.loop-one-preserved
loop-one-preserved c =
    let n = c.loop-one.one-index in
    let ds = c.args.definitions.now in
    let d = c.one-item.result in
    let kept = c.loop-one.names.definitions in
    let one = definition c.bytes.result d.scope in
    let now : c.define.new.self.definitions ≡ kept ++ one ∷ [] = ap (λ (k : Known). k.definitions) c.in_ok-define.ensures.defined in
    let checks : c.define.new.self.checks ≡ c.loop-one.names.checks = ap (λ (k : Known). k.checks) c.in_ok-define.ensures.defined in
    let dropped : drop n ds ≡ d ∷ drop (n + 1) ds = drop_more ds n d c.loop-one-test.true ∙ ap (λ x. x ∷ drop (n + 1) ds) (sym c.one-item.is) in
    let key : kept_key one ≡ key_of (entry_of d) = ap (λ q. (q, d.scope)) c.bytes.ensures in
    let there : slice_get (shown ds) n ≡ Some (entry_of d) = slice_get-map entry_of ds n ∙ ap (option_map entry_of) (slice_get_read ds (length ds) n d refl c.loop-one-test.true c.one-item.is) in
    let names = one_defined ds n d dropped kept one (map key_of (shown ds)) key c.loop-one.invariant.0 in (
      subst (λ (those : List Definition). map kept_key those ++ map key_of (shown (drop (n + 1) ds)) ≡ map key_of (shown ds)) (sym now) names,
      ap length now ∙ (longer kept one ∙ ap (λ m. m + 1) c.loop-one.invariant.1),
      checks ∙ c.loop-one.invariant.2,
      subst (λ m. StandAtPlaces m (shown (drop (n + 1) ds))) (sym checks) (rest_stands ds n d dropped c.loop-one.names.checks c.loop-one.invariant.3).1,
      ap length c.in_ok-push.ensures.items ∙ (longer c.loop-one.repeated.items c.in_ok-define.field-0 ∙ ap (λ m. m + 1) c.loop-one.invariant.4),
      λ i b e. elim (one_more c.loop-one.repeated.items i b c.in_ok-define.field-0 (subst (λ those. slice_get those i ≡ Some b) c.in_ok-push.ensures.items e)) [
        | inl (l, old) ↦ c.loop-one.invariant.5 i b old
        | inr (last, is) ↦
            let size : length kept ≡ n = c.loop-one.invariant.1 in
            let told = tells kept (shown ds) (map key_of (shown (drop n ds))) c.loop-one.invariant.0 one (entry_of d) (subst (λ m. slice_get (shown ds) m ≡ Some (entry_of d)) (sym size) there) key c.in_ok-define.field-0 c.in_ok-define.ensures.repeated in
            let place : length kept ≡ i = size ∙ (sym c.loop-one.invariant.4 ∙ sym last) in
            subst (λ (x : Bool). (x ≡ true) ↔ IsRepeated (shown ds) i) (sym is) (subst (λ m. (c.in_ok-define.field-0 ≡ true) ↔ IsRepeated (shown ds) m) place told)
      ],
    )

pub returns : goal.returns
returns c =
    let ds = c.args.definitions.now in record {
      names = all_defined ds c.loop-one.one-index c.loop-one.names.definitions (map key_of (shown ds)) c.loop-one-test.false c.loop-one.invariant.0;
      checks = c.loop-one.invariant.2;
      repeated = record { as_many = c.loop-one.invariant.4 ∙ (let m = length-map ds entry_of in let l = c.loop-one-test.false in let k = c.loop-one.auto.one-index-end in omega (arith)); each = c.loop-one.invariant.5 };
    }
