use Rattle.std.proofs.Common.{get_or, ◌^◌, pos, subst, arith}
use Rattle.std.proofs.lemmas.Int.{ints}
use Rattle.std.proofs.lemmas.List.{take_all}
use Rattle.std.proofs.lemmas.List.Elements.{All-more, recursion_from_All}
use Rattle.std.specs.List.{All}
use Rattle.drc_geom.specs.declared.rect.Rect.{Rect}
use Rattle.region_size.specs.Working.Widths.{LiesWithin}
use Rattle.region_size.proofs.tests.are_in_reach.Goals as goal

abbrev origin : Rect
origin = record { x0 = pos 0; y0 = pos 0; x1 = pos 0; y1 = pos 0 }

abbrev Lies : Rect → Type 0
Lies = LiesWithin (pos (2 ^ 40))

pub loop-r-preserved : goal.loop-r-preserved
loop-r-preserved c =
    let xs = c.args.rects.now in
    let i = c.loop-r.r-index in
    All-more Lies xs i origin c.loop-r-test.true c.loop-r.invariant (record {
      x0 = omega (arith, ints);
      y0 = omega (arith, ints);
      x1 = omega (arith, ints);
      y1 = omega (arith, ints);
    })

pub returns : goal.returns
returns c = λ yes.
    let xs = c.args.rects.now in
    recursion_from_All Lies xs (subst (All Lies) (take_all c.loop-r.r-index xs (omega arith)) c.loop-r.invariant)
