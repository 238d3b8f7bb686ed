use Rattle.std.proofs.Common.{rules, ◌++◌, ap, sym, ◌∙◌, w64, arith}
use Rattle.std.proofs.lemmas.Grind.{common_steps}
use Rattle.std.proofs.lemmas.Int.{to_z-of_z}
use Rattle.std.proofs.lemmas.List.{drop_all}
use Rattle.gds_path.specs.Working.Pens.{ahead, drawn_to}
use Rattle.gds_path.proofs.rects.draw.Goals as goal

pub loop-point-preserved : goal.loop-point-preserved
loop-point-preserved c = (
  c.in_ok-pen.ensures.steady,
  first_of (search rules, grind (arith, common_steps)),
  c.in_ok-pen.ensures.kept c.args.out.now.items c.loop-point.invariant.2,
)

pub returns-clause-rects : goal.returns-clause-rects
returns-clause-rects c =
    let stroke = c.args.stroke.now in
    let l = c.loop-point in
    c.in_ok-push.ensures.rects
    ∙ ap (λ rects. l.out.items ++ rects) (c.drawn_to.ensures ∙ ap (λ behind. drawn_to stroke.half_width behind l.pen) (to_z-of_z w64 c.behind_last.result (search rules) ∙ c.behind_last.ensures))
    ∙ ap (λ points. l.out.items ++ ahead stroke l.pen points) (sym (drop_all l.point-index c.args.points.now (omega arith)))
    ∙ l.invariant.1
