use Rattle.std.proofs.Common.{◌≡◌, ◌<ℤ◌, ◌++◌, [], ◌∷◌, w64, rules, ap, ◌∙◌, arith}
use Rattle.std.proofs.lemmas.Int.{ints, to_z-of_z}
use mir.Val.{SFits}
use Rattle.drc_geom.specs.declared.run.Run.{Run}
use Rattle.edge_of_region.specs.Working.Walks.{level_run, upright_run}
use Rattle.edge_of_region.proofs.Walks.{below_more, sides_more}
use Rattle.edge_of_region.proofs.walk.step.Goals as goal

pub returns-clause-below : goal.returns-clause-below
returns-clause-below c =
    let fits : SFits w64 c.args.upright.line = search rules in
    let fits_y : SFits w64 c.args.flip.y = search rules in
    let l : c.args.flip.x0 <ℤ c.args.upright.line = omega (arith, ints) in
    λ rest. simp to_z-of_z (below_more c.args.flip c.args.pen.at c.args.pen.inside c.args.upright rest c.args.below.now.items c.push.new.self.items l (simp to_z-of_z at c.in_ok-push.ensures.items))

pub returns-clause-sides : goal.returns-clause-sides
returns-clause-sides c =
    let fits : SFits w64 c.args.upright.line = search rules in
    let fits_y : SFits w64 c.args.flip.y = search rules in
    let fits_at : SFits w64 c.args.pen.at = search rules in
    let up : c.upright_run-upright_side.result ≡ upright_run c.args.flip.y c.args.upright = simp to_z-of_z at c.upright_run-upright_side.ensures in
    let level : c.level_run-level_side.result ≡ level_run c.args.flip.y c.args.upright.line c.args.pen.at c.args.pen.inside = simp to_z-of_z at c.level_run-level_side.ensures in
    let old = c.args.sides.now.items in
    let is =
    c.in_ok-extend_from_slice.ensures.items
    ∙ (ap (λ (r : Run). old ++ r ∷ c.level_run-level_side.result ∷ []) up
    ∙ ap (λ (r : Run). old ++ upright_run c.args.flip.y c.args.upright ∷ r ∷ []) level) in
    λ rest. simp to_z-of_z (sides_more c.args.flip c.args.pen.at c.args.pen.inside c.args.upright rest old c.extend_from_slice.new.self.items is)
