-- Pieces: a stretch of columns cut where the value changes.
use Rattle.std.specs.Prelude.{◌≡◌, ℤ, ◌<ℤ◌, ◌≤ℤ◌, List, [], ◌∷◌}
use Rattle.row_state.specs.declared.piece.Piece.{Piece}

-- the pieces tile the columns x0 to x1 - 1 from left to right, and on each the value is the one that it tells
abbrev pub Tile : {V : Type 0} → (values : ℤ → V) (x0 x1 : ℤ) → List (Piece V) → Type 0
Tile values x0 x1 [] = x0 ≡ x1
Tile values x0 x1 (p ∷ ps) =
    (p.x0 ≡ x0) × (x0 <ℤ p.x1) × ((x : ℤ) → x0 ≤ℤ x → x <ℤ p.x1 → values x ≡ p.old) × Tile values p.x1 x1 ps
