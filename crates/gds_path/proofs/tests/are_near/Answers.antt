use Rattle.std.proofs.Common.{get_or, pos, subst, arith}
use Rattle.std.proofs.lemmas.Int.{ints}
use Rattle.std.proofs.lemmas.List.{take_all}
use Rattle.std.proofs.lemmas.List.Elements.{All-more}
use Rattle.std.specs.List.{All}
use Rattle.drc_geom.specs.declared.point.Pt.{Pt}
use Rattle.gds_path.specs.Paths.{IsMeasuredPoint}
use Rattle.gds_path.proofs.tests.are_near.Goals as goal

abbrev origin : Pt
origin = record { x = pos 0; y = pos 0 }

pub loop-p-preserved : goal.loop-p-preserved
loop-p-preserved c =
    let xs = c.args.points.now in
    let i = c.loop-p.p-index in
    let measured : IsMeasuredPoint (get_or xs i origin) = record { x = omega (arith, ints); y = omega (arith, ints) } in
    All-more IsMeasuredPoint xs i origin c.loop-p-test.true c.loop-p.invariant measured

pub returns : goal.returns
returns c = λ yes.
    let xs = c.args.points.now in
    subst (All IsMeasuredPoint) (take_all c.loop-p.p-index xs (omega arith)) c.loop-p.invariant
