use Rattle.std.proofs.Common.{◌≡◌, ◌||◌, ap, ◌∙◌}
use Rattle.std.proofs.lemmas.Result.{on_ok_weaker}
use Rattle.drc_geom.specs.Squares.{covered}
use Rattle.gds_path.specs.Working.Pens.{all_drawn}
use Rattle.drc_geom.proofs.Covered.{covered_append}
use Rattle.gds_path.proofs.Paths.{all_drawn_is}
use Rattle.gds_path.proofs.rects.path_rects.Goals as goal

pub returns-else-is_err-clause-covered : goal.returns-else-is_err-clause-covered
returns-else-is_err-clause-covered c =
    let old = c.args.out.now.items in
    let stroke = c.args.stroke.now in
    let points = c.args.points.now in
    on_ok_weaker c.draw_within-drawn.result
    (λ e x y. ap (λ rects. covered rects x y) e
    ∙ covered_append old (all_drawn stroke points) x y
    ∙ ap (λ rects. covered old x y || covered rects x y) (all_drawn_is stroke points))
    c.draw_within-drawn.ensures.rects
