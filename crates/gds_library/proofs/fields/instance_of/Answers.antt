use Rattle.std.proofs.Common.{◌≡◌, sym, ◌∙◌, ap}
use Rattle.gds_library.specs.declared.element.Instance.{Instance}
use Rattle.gds_library.specs.Fields.{name}
use Rattle.gds_library.proofs.NameSets.{unpadded}
use Rattle.gds_library.proofs.fields.instance_of.Goals as goal

pub returns : goal.returns
returns c =
    let padded = c.without_padding-name.ensures in
    let called = c.in_ok-new.ensures ∙ sym (unpadded c.without_padding-name.result.now c.data_of.result.now padded.first padded.nulls padded.whole) ∙ ap name c.data_of.ensures in
    λ i.
    let r : Instance = record {
      at = c.args.first.now.at;
      name = called i;
      name_at = c.offset_of.ensures i;
      transform = c.given_number.ensures i;
      magnification = c.given_real.ensures i;
      angle = c.given_real-2.ensures i;
      counts = c.given_counts.ensures i;
      points_at = c.offset_of-2.ensures i;
    } in
    r
