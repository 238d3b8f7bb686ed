-- Upright sides in order.
use Rattle.std.specs.Prelude.{◌<ℤ◌, List, [], ◌∷◌}
use Rattle.std.specs.List.{AllByRecursion}
use Rattle.edge_of_region.specs.declared.upright.Upright.{Upright}

-- from right to left, each on a line of its own
abbrev pub Descend : List Upright → Type 0
Descend [] = Unit {0}
Descend (u ∷ us) = AllByRecursion (λ v. v.line <ℤ u.line) us × Descend us
