use Rattle.std.proofs.Common.{◌≡◌, refl, sym, ◌∙◌, ap, subst, arith, length}
use Rattle.std.specs.Option.{option_or}
use Rattle.gds_records.specs.declared.fault.LayoutKind.{LayoutKind}
use Rattle.gds_records.specs.declared.record_type.RecordType.TheVariants as types
use Rattle.gds_records.specs.Stream.{item_of}
use Rattle.gds_values.specs.Rules.{HasGoodData}
use Rattle.gds_facts.specs.Opened.{types_of}
use Rattle.gds_facts.specs.Facts.{IsFact, Agrees}
use Rattle.gds_facts.proofs.Taking.{denied, granted, bad_data, mismatch, one_more}
use Rattle.gds_facts.proofs.checker.Checker.take.Goals as goal

pub returns-then-not-has_good_data-clause-refused : goal.returns-then-not-has_good_data-clause-refused
returns-then-not-has_good_data-clause-refused c =
    let is = c.refusal-then-not-has_good_data.ensures in
    let item = item_of c.args.item.now in
    let checker = c.args.self.now in
    let none : HasGoodData checker.line item → ⊥ = denied c.has_good_data.result c.if-not-has_good_data.true c.has_good_data.ensures in (
      ap (λ r. r.at) is,
      λ items taken.
          let F : LayoutKind → Type 0 = λ k. IsFact checker.precision items item k in
          subst F (sym (ap (λ r. r.kind) is)) (bad_data items item checker taken c.in-Some.slot (c.in-Some.ensures (types_of items) taken.slot) none),
    )

pub agrees-requires : goal.agrees-requires
agrees-requires c = λ is.
    let g : HasGoodData c.args.self.now.line (item_of c.args.item.now) = granted c.has_good_data.result c.if-not-has_good_data.false c.has_good_data.ensures in
    let l : length c.args.item.now.body.items ≡ 16 = (g types.Units is).1 in
    omega (arith, l)

pub returns-then-not-agrees-clause-refused : goal.returns-then-not-agrees-clause-refused
returns-then-not-agrees-clause-refused c =
    let is = c.refusal-then-not-agrees.ensures in
    let item = item_of c.args.item.now in
    let checker = c.args.self.now in
    let g : HasGoodData checker.line item = granted c.has_good_data.result c.if-not-has_good_data.false c.has_good_data.ensures in
    let none : Agrees checker.precision item → ⊥ = denied c.agrees.result c.if-not-agrees.true c.agrees.ensures in (
      ap (λ r. r.at) is,
      λ items taken.
          let F : LayoutKind → Type 0 = λ k. IsFact checker.precision items item k in
          subst F (sym (ap (λ r. r.kind) is)) (mismatch items item checker taken c.in-Some.slot (c.in-Some.ensures (types_of items) taken.slot) g none),
    )

pub returns-clause-taken : goal.returns-clause-taken
returns-clause-taken c = λ items taken.
    let item = item_of c.args.item.now in
    let checker = c.args.self.now in
    let g : HasGoodData checker.line item = granted c.has_good_data.result c.if-not-has_good_data.false c.has_good_data.ensures in
    let agrees : Agrees checker.precision item = granted c.agrees.result c.if-not-agrees.false c.agrees.ensures in
    one_more items item checker taken c.in-Some.slot (c.in-Some.ensures (types_of items) taken.slot) _ refl refl
    (c.or-self.ensures ∙ ap (λ l. option_or l checker.line) c.opened_by.ensures) g agrees
