use Rattle.std.proofs.Common.{◌&&◌, ◌∙◌}
use Rattle.gds_placing.proofs.FirstFacts.{corners_decide}
use Rattle.gds_placing.proofs.facts.are_corners_reached.Goals as goal

pub returns : goal.returns
returns c =
    c.all_of.ensures
    ∙ (λ i.
    c.is_origin_reached-first.ensures i
    && (c.is_origin_reached-second.ensures i && (c.is_origin_reached-third.ensures i
    && c.is_origin_reached-fourth.ensures i)))
    ∙ corners_decide c.args.outer.now c.args.copies.now c.requires.some.0 c.requires.some.1
