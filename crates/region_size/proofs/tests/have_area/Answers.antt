use Rattle.std.proofs.Common.{get_or, pos, subst, arith}
use Rattle.std.proofs.lemmas.Int.{ints}
use Rattle.std.proofs.lemmas.List.{take_all}
use Rattle.std.proofs.lemmas.List.Elements.{All-more, recursion_from_All}
use Rattle.std.specs.List.{All}
use Rattle.drc_geom.specs.declared.rect.Rect.{Rect}
use Rattle.drc_geom.specs.Squares.{IsRect}
use Rattle.region_size.proofs.tests.have_area.Goals as goal

abbrev origin : Rect
origin = record { x0 = pos 0; y0 = pos 0; x1 = pos 0; y1 = pos 0 }

pub loop-r-preserved : goal.loop-r-preserved
loop-r-preserved c =
    let xs = c.args.rects.now in
    let i = c.loop-r.r-index in
    let area : IsRect (get_or xs i origin) = record { wide = omega (arith, ints); high = omega (arith, ints) } in
    All-more IsRect xs i origin c.loop-r-test.true c.loop-r.invariant area

pub returns : goal.returns
returns c = λ yes.
    let xs = c.args.rects.now in
    recursion_from_All IsRect xs (subst (All IsRect) (take_all c.loop-r.r-index xs (omega arith)) c.loop-r.invariant)
