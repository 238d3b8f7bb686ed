use Rattle.std.proofs.Common.{not, ◌++◌, slice_get, ap, ◌∙◌}
use Rattle.std.specs.Option.{option_to_list}
use Rattle.gds_records.specs.declared.fault.LayoutKind.TheVariants as kinds
use Rattle.gds_placing.specs.declared.copies.Copies.{Copies}
use Rattle.gds_placing.specs.Facts.{are_reached, fact_if, magnification_facts, angle_facts, flag_facts, pitch_facts, range_facts}
use Rattle.gds_placing.proofs.FirstFacts.{first_of_rest}
use Rattle.gds_placing.proofs.facts.fact_of.Goals as goal

pub returns : goal.returns
returns c =
    let outer = c.args.outer.now in
    let instance = c.args.instance.now in
    let points = c.args.points.now in
    let range =
    c.range_fact-range.ensures
    ∙ ap (λ (k : Copies). fact_if (not
    (are_reached outer k)) instance.points_at kinds.CoordinateRange) c.requires.copies in
    let from_pitch = pitch_facts instance points ++ range_facts outer instance points in
    let from_angle = angle_facts instance ++ from_pitch in
    let from_magnification = magnification_facts outer instance ++ from_angle in
    let pitch = c.first_of-pitch.ensures ∙ (λ i. slice_get (c.pitch_fact.ensures i ++ range i) 0) in
    let angle =
    c.first_of-angle.ensures ∙ (λ i. slice_get (c.angle_fact.ensures i ++ option_to_list (pitch i)) 0)
    ∙ first_of_rest (angle_facts instance) from_pitch in
    let magnification =
    c.first_of-magnification.ensures
    ∙ (λ i. slice_get (c.magnification_fact.ensures i ++ option_to_list (angle i)) 0)
    ∙ first_of_rest (magnification_facts outer instance) from_angle in
    c.first_of.ensures ∙ (λ i. slice_get (c.flag_fact.ensures i ++ option_to_list (magnification i)) 0)
    ∙ first_of_rest (flag_facts instance) from_magnification
