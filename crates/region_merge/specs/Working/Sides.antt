-- The lower and the upper sides of rectangles.
use Rattle.std.specs.Prelude.{List, map}
use Rattle.drc_geom.specs.declared.rect.Rect.{Rect}
use Rattle.region_form.specs.declared.flip.Flip.{Flip}

abbrev pub lower_sides : List Rect → List Flip
lower_sides = map (λ r. record { y = r.y0; x0 = r.x0; x1 = r.x1 })

abbrev pub upper_sides : List Rect → List Flip
upper_sides = map (λ r. record { y = r.y1; x0 = r.x0; x1 = r.x1 })
