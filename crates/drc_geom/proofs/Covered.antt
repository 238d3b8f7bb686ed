-- What rectangles cover, and more of them.
use Rattle.std.proofs.Common.{◌≡◌, refl, ap, ◌∙◌, ◌||◌, ℤ, List, [], ◌∷◌, ◌++◌}
use Rattle.list_facts.proofs.Tests.{or_assoc}
use Rattle.drc_geom.specs.declared.rect.Rect.{Rect}
use Rattle.drc_geom.specs.Squares.{covered, squares_of}

pub covered_append : (a b : List Rect) (x y : ℤ) → covered (a ++ b) x y ≡ (covered a x y || covered b x y)
covered_append [] b x y = refl
covered_append (r ∷ a) b x y =
    ap (λ v. squares_of r x y || v) (covered_append a b x y) ∙ or_assoc (squares_of r x y) (covered a x y) (covered b x y)
