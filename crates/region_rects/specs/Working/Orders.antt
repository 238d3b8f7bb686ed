-- Flips in order.
use Rattle.std.specs.Prelude.{◌≡◌, ◌⊎◌, ◌<ℤ◌, ◌≤ℤ◌}
use Rattle.region_form.specs.declared.flip.Flip.{Flip}

-- g lies on a higher line than f, or on its line and behind it
abbrev pub LiesBehind : Flip → Flip → Type 0
LiesBehind f g = (f.y <ℤ g.y) ⊎ ((f.y ≡ g.y) × (f.x1 ≤ℤ g.x0))
