use Rattle.std.proofs.Common.{◌≡◌, sym, ◌∙◌, ap, subst, ℕ, List, ◌||◌, Bool, true, false, not, Ok}
use Rattle.std.specs.Str.{bytes_eq}
use Rattle.std.proofs.lemmas.Bool.{true≢false, not-true, not-false}
use Rattle.gds_records.specs.declared.record_type.RecordType.TheVariants as types
use Rattle.gds_records.specs.RecordTypes.{code_of}
use Rattle.gds_records.specs.Stream.{item_of}
use Rattle.gds_library.specs.Fields.{name}
use Rattle.gds_library.specs.Facts.{has_name, names_in}
use Rattle.list_facts.proofs.Texts.{bytes_apart}
use Rattle.gds_library.proofs.NameSets.{unpadded}
use Rattle.gds_library.proofs.Facts.{knows_name, knows_other}
use Rattle.gds_library.proofs.builder.is_new.Goals as goal

pub returns-then-not-has_type-clause-new : goal.returns-then-not-has_type-clause-new
returns-then-not-has_type-clause-new c = λ yes items known.
    knows_other items (item_of c.args.item.now) c.args.names.now (λ is. true≢false (sym (c.has_type.ensures.1 (sym is)) ∙ c.if-not-has_type.true)) known

module _ (c : goal.In_ok-new) where
  is_name : c.args.item.now.kind ≡ code_of types.StructureName
  is_name = sym (c.has_type.ensures.0 c.if-not-has_type.false)

  its_name : name c.args.item.now.body.items ≡ c.without_padding.result.now
  its_name =
      let padded = c.without_padding.ensures in
      ap name (sym c.deref.ensures.value) ∙ unpadded c.without_padding.result.now c.deref.result.now padded.first padded.nulls padded.whole

pub returns-clause-new : goal.returns-clause-new
returns-clause-new c = λ yes items known.
    let names = c.args.names.now in
    let none : has_name names (name c.args.item.now.body.items) ≡ false =
    ap (has_name names) (its_name c) ∙ not-true (has_name names c.without_padding.result.now) (sym c.in_ok-new.ensures.fresh ∙ yes) in
    knows_name bytes_apart items (item_of c.args.item.now) names c.insert.new.self (is_name c)
    (λ those. c.in_ok-new.ensures.taken those ∙ ap (λ n. bytes_eq those n || has_name names those) (sym (its_name c))) none known

pub returns-clause-duplicate : goal.returns-clause-duplicate
returns-clause-duplicate c = λ no items known.
    let names = c.args.names.now in (
      is_name c,
      sym (known.same (name c.args.item.now.body.items)) ∙ ap (has_name names) (its_name c)
          ∙ not-false (has_name names c.without_padding.result.now) (sym c.in_ok-new.ensures.fresh ∙ no),
    )
