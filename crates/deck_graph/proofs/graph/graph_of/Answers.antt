use Rattle.std.proofs.Common.{◌≡◌, List, length, map, refl, sym, ap, subst, arith}
use Rattle.std.specs.List.{flat_map}
use Rattle.deck_names.specs.Definitions.{Known}
use Rattle.deck_counts.specs.Outputs.{statement_checks}
use Rattle.deck_definitions.specs.declared.defined.Defined.{Defined}
use Rattle.deck_definitions.specs.Definitions.{shown}
use Rattle.deck_graph.specs.Graphs.{numbers, StandAtPlaces, TellRepeated}
use Rattle.deck_graph.specs.Kept.{AreNames}
use Rattle.deck_graph.specs.Working.Finding.{uses_by}
use Rattle.deck_graph.proofs.Graphs.{as_many, same_uses}
use Rattle.deck_graph.proofs.Places.{stand}
use Rattle.deck_graph.proofs.graph.graph_of.Goals as goal

pub define_all-requires-clause-places : goal.define_all-requires-clause-places
define_all-requires-clause-places c =
    let opened = c.in_ok-open_checks.ensures.checks in
    let none = ap (λ (k : Known). k.checks) c.new-names.ensures in
    let those = ap (λ statements. length (flat_map statement_checks statements)) c.as_slice-statements.ensures in
    subst (λ (ds : List Defined). StandAtPlaces c.open_checks.new.names.checks (shown ds)) (sym c.deref.ensures.value)
    (stand c.args.deck.now c.in_ok-definitions.definitions.items c.open_checks.new.names.checks c.in_ok-definitions.ensures (omega (arith, opened, none, those)))

pub all_uses-requires : goal.all_uses-requires
all_uses-requires c =
    let opened = c.in_ok-open_checks.ensures.checks in
    let none = ap (λ (k : Known). k.checks) c.new-names.ensures in
    let those = ap (λ statements. length (flat_map statement_checks statements)) c.as_slice-statements.ensures in
    let same = c.in_ok-repeated.ensures.checks in
    subst (λ (ds : List Defined). StandAtPlaces c.define_all.new.names.checks (shown ds)) (sym c.deref-2.ensures.value)
    (stand c.args.deck.now c.in_ok-definitions.definitions.items c.define_all.new.names.checks c.in_ok-definitions.ensures (omega (arith, opened, none, those, same)))

pub invariant_of-result : goal.invariant_of-result
invariant_of-result c =
    let ds = c.in_ok-definitions.definitions.items in
    let kept = c.define_all.new.names.definitions in
    let P : List Defined → Type 0 = λ found. AreNames kept (shown found) in
    let Q : List Defined → Type 0 = λ found. numbers c.in_ok-uses.uses.items ≡ map (uses_by kept) (shown found) in
    let R : List Defined → Type 0 = λ found. TellRepeated (shown found) c.in_ok-repeated.repeated.items in
    let S : List Defined → Type 0 = λ found. StandAtPlaces c.define_all.new.names.checks (shown found) in
    let are = subst P c.deref.ensures.value c.in_ok-repeated.ensures.names in
    let uses = subst Q c.deref-2.ensures.value c.in_ok-uses.ensures in
    let opened = c.in_ok-open_checks.ensures.checks in
    let none = ap (λ (k : Known). k.checks) c.new-names.ensures in
    let those = ap (λ statements. length (flat_map statement_checks statements)) c.as_slice-statements.ensures in
    let same = c.in_ok-repeated.ensures.checks in
    record {
      names_are = are;
      places = stand c.args.deck.now ds c.define_all.new.names.checks c.in_ok-definitions.ensures (omega (arith, opened, none, those, same));
      repeated_are = subst R c.deref.ensures.value c.in_ok-repeated.ensures.repeated;
      uses_are = same_uses kept ds (shown ds) c.in_ok-uses.uses.items refl are uses;
      few = let size = as_many kept ds c.in_ok-uses.uses.items uses in omega (arith, size);
    }
