-- Pieces that follow each other and are equal, joined.
use Rattle.std.specs.Prelude.{◌≡◌, if◌then◌else◌, List, [], ◌∷◌}
use Rattle.row_state.specs.declared.piece.Piece.{Piece}
use Rattle.region_rects.specs.declared.stretch.Stretch.{Stretch}
use Rattle.region_rects.specs.Working.Stretches.{same_stretch}

-- a piece, and those behind it
abbrev pub joined_from : Piece Stretch → List (Piece Stretch) → List (Piece Stretch)
joined_from p [] = p ∷ []
joined_from p (q ∷ qs) =
    if same_stretch p.old q.old then joined_from (record { x0 = p.x0; x1 = q.x1; old = p.old }) qs
    else p ∷ joined_from q qs

abbrev pub joined : List (Piece Stretch) → List (Piece Stretch)
joined [] = []
joined (p ∷ ps) = joined_from p ps

abbrev pub FirstDiffers : Stretch → List (Piece Stretch) → Type 0
FirstDiffers v [] = Unit {0}
FirstDiffers v (q ∷ qs) = v ≡ q.old → ⊥

-- each piece differs from the next
abbrev pub Differ : List (Piece Stretch) → Type 0
Differ [] = Unit {0}
Differ (p ∷ ps) = FirstDiffers p.old ps × Differ ps
