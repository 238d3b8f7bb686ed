-- Stretches that have begun in rows, and the rectangles that end with them.
use Rattle.std.specs.Prelude.{◌≡◌, Bool, true, false, ℤ, ◌≤ℤ◌, int_le, int_lt, if◌then◌else◌, List, [], ◌∷◌, ◌++◌}
use Rattle.std.specs.Ordering.{int_eq}
use Rattle.std.proofs.Common.{ap, refl}
use Rattle.list_facts.proofs.Tests.{clash, eq_from_true, eq_true}
use Rattle.drc_geom.specs.declared.rect.Rect.{Rect}
use Rattle.row_state.specs.declared.piece.Piece.{Piece}
use Rattle.region_rects.specs.declared.stretch.Stretch.{Stretch}
use Rattle.region_rects.specs.declared.stretch.Stretch.TheVariants.{None, From}

abbrev pub same_stretch : Stretch → Stretch → Bool
same_stretch None None = true
same_stretch None (From b) = false
same_stretch (From a) None = false
same_stretch (From a) (From b) = int_eq a b

pub same_equal : (a b : Stretch) → same_stretch a b ≡ true → a ≡ b
same_equal None None e = refl
same_equal None (From b) e = clash false e refl
same_equal (From a) None e = clash false e refl
same_equal (From a) (From b) e = ap From (eq_from_true a b e)

pub equal_same : (a : Stretch) → same_stretch a a ≡ true
equal_same None = refl
equal_same (From a) = eq_true a a refl

-- at the line a stretch ends, or one begins
abbrev pub passed : (line : ℤ) → Stretch → Stretch
passed line None = From line
passed line (From a) = None

-- whether the stretch that has begun has column x
abbrev pub has_begun : Stretch → ℤ → Bool
has_begun None x = false
has_begun (From a) x = int_le a x

-- it began on the line or before it
abbrev pub BeganUpTo : (line : ℤ) → Stretch → Type 0
BeganUpTo line None = Unit {0}
BeganUpTo line (From a) = a ≤ℤ line

-- the rectangle of the rows y0 to y1 - 1, in which a stretch ends on the line
abbrev pub ended_one : (line y0 y1 : ℤ) → Stretch → List Rect
ended_one line y0 y1 None = []
ended_one line y0 y1 (From a) = if int_lt a line then record { x0 = a; y0 = y0; x1 = line; y1 = y1 } ∷ [] else []

-- the rectangles of all pieces
abbrev pub ended : (line : ℤ) → List (Piece Stretch) → List Rect
ended line [] = []
ended line (p ∷ ps) = ended_one line p.x0 p.x1 p.old ++ ended line ps
