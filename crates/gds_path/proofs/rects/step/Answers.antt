use Rattle.std.proofs.Common.{◌≡◌, ◌∷◌, ◌++◌, ap, ◌∙◌, append_assoc}
use Rattle.gds_path.specs.Working.Pens.{ahead, drawn, moved}
use Rattle.gds_path.proofs.rects.step.Goals as goal

pub returns-clause-rects : goal.returns-clause-rects
returns-clause-rects c =
    λ rest.
    let stroke = c.args.stroke.now in
    let pen = moved stroke.half_width c.args.pen.now c.args.to in
    ap (λ now. c.draw_corner.new.out.items ++ ahead stroke now rest) c.moved.ensures.value
    ∙ ap (λ rects. rects ++ ahead stroke pen rest) c.in_ok-draw_corner.ensures.rects
    ∙ append_assoc c.args.out.now.items (drawn stroke.half_width c.args.pen.now c.args.to) (ahead stroke pen rest)
