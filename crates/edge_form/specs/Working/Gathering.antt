-- How pieces are gathered: they are sorted by side, line and first column, and each is joined with the ones behind it
-- that overlap or touch it, so that a gap is left between any two with one side, on one line.
use Rattle.std.specs.Prelude.{◌≡◌, ◌<◌, Bool, ◌&&◌, ◌==◌, ◌⊎◌, ℤ, ◌<ℤ◌, int_le, if◌then◌else◌, List, [], ◌∷◌}
use Rattle.std.specs.declared.cmp.Ordering.{Ordering}
use Rattle.std.specs.Ordering.{ordering_then, nat_cmp, int_cmp, int_eq}
use Rattle.drc_geom.specs.declared.run.Run.{Run}
use Rattle.drc_geom.specs.Runs.{side_rank}

-- by side, then by line, then by first column
abbrev pub place_order : Run → Run → Ordering
place_order a b =
    ordering_then (nat_cmp (side_rank a.side) (side_rank b.side))
    (ordering_then (int_cmp a.line b.line) (int_cmp a.lo b.lo))

-- a piece with the run's side, on its line, begins at the run's end or before
abbrev pub meets : Run → Run → Bool
meets run piece = (side_rank run.side == side_rank piece.side) && int_eq run.line piece.line && int_le piece.lo run.hi

-- the greater of two columns
abbrev pub further : ℤ → ℤ → ℤ
further a b = if int_le a b then b else a

-- the run, up to the end of the piece where that lies further
abbrev pub joined : Run → Run → Run
joined run piece = record { side = run.side; line = run.line; lo = run.lo; hi = further run.hi piece.hi }

-- the one stands before the other: its side is lower, or its line on one side, or it ends with a gap before the other
abbrev pub IsSpaced : Run → Run → Type 0
IsSpaced a b =
    (side_rank a.side < side_rank b.side)
    ⊎ ((side_rank a.side ≡ side_rank b.side) × ((a.line <ℤ b.line) ⊎ ((a.line ≡ b.line) × (a.hi <ℤ b.lo))))

-- each run of the list stands before the next, with a gap where both lie on one line
abbrev pub AreSpaced : List Run → Type 0
AreSpaced [] = Unit {0}
AreSpaced (a ∷ []) = Unit {0}
AreSpaced (a ∷ b ∷ runs) = IsSpaced a b × AreSpaced (b ∷ runs)
