use Rattle.std.proofs.Common.{sym, ◌∙◌, ap, rules}
use Rattle.std.specs.Int.{w16}
use Rattle.std.proofs.lemmas.Int.{to_z-of_z}
use Rattle.layer_model.specs.DrawnNumbers.{Reading, number_of}
use Rattle.layer_model.proofs.Among.{takes_by_row, takes_by_layer}
use Rattle.layer_model.proofs.reads.Reads.takes.Goals as goal

pub returns-then-is_named : goal.returns-then-is_named
returns-then-is_named c =
    let maps = ap (λ (r : Reading). r.maps) c.self.view_is in
    let numbers = ap (λ (r : Reading). r.numbers) c.self.view_is in
    c.has_target_among.ensures
    ∙ takes_by_row c.args.self.now c.args.layer c.args.datatype _ _ _ _ _ (c.deref.ensures.value ∙ maps) (c.deref-then-is_named.ensures.value ∙ maps)
    (c.deref-then-is_named-2.ensures.value ∙ numbers) (c.counted-layer.ensures ∙ ap number_of (to_z-of_z w16 c.args.layer (search rules))) (c.counted-datatype.ensures ∙ ap number_of (to_z-of_z w16 c.args.datatype (search rules)))
    (sym c.is_named.ensures ∙ c.if-is_named.true)

pub returns-else-is_named : goal.returns-else-is_named
returns-else-is_named c =
    let maps = ap (λ (r : Reading). r.maps) c.self.view_is in
    let numbers = ap (λ (r : Reading). r.numbers) c.self.view_is in
    c.is_among.ensures
    ∙ takes_by_layer c.args.self.now c.args.layer c.args.datatype _ _ _ _ (c.deref.ensures.value ∙ maps)
    (c.deref-else-is_named.ensures.value ∙ numbers) (c.counted-layer.ensures ∙ ap number_of (to_z-of_z w16 c.args.layer (search rules))) (c.counted-datatype.ensures ∙ ap number_of (to_z-of_z w16 c.args.datatype (search rules)))
    (sym c.is_named.ensures ∙ c.if-is_named.false)
