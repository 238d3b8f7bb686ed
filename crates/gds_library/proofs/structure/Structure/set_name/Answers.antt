use Rattle.std.proofs.Common.{◌≡◌, sym, ◌∙◌, ap, ℕ, List}
use Rattle.gds_library.specs.Library.{Structure}
use Rattle.gds_library.specs.Fields.{name}
use Rattle.gds_library.proofs.NameSets.{unpadded}
use Rattle.gds_library.proofs.structure.Structure.set_name.Goals as goal

pub returns : goal.returns
returns c =
    let padded = c.without_padding.ensures in
    let is = c.in_ok-self-inside.ensures ∙ sym (unpadded c.without_padding.result.now c.args.text.now padded.first padded.nulls padded.whole) in
    let named : List ℕ → Structure = λ those. record { name = those; at = c.self.inside.at; elements = c.args.self.now.elements } in
    let elements = ap (λ (s : Structure). let r : Structure = record s { name = c.in_ok-self-inside.field-0 } in r) c.self.view_is in
    elements ∙ ap (λ those. let r : Structure = record c.args.self.now { name = those } in r) is
