-- Turns of the plane: first y is mirrored or not, and then the plane turns counterclockwise round (0, 0), by quarters.
--
--      y                       a quarter takes (x, y) to (-y, x)
--      |    . (2, 1)           mirrored, (x, y) goes to (x, -y)
--   ---+------- x
use Rattle.std.specs.Prelude.{ℕ, zero, suc, ◌^◌, Bool, true, false, ℤ, pos, neg_ℤ, ◌<ℤ◌}
use Rattle.drc_geom.specs.declared.point.Pt.{Pt}
use Rattle.drc_geom.specs.declared.turn.Turn.{Turn}

-- a number of this size can be added and mirrored freely
abbrev pub IsCoordinate : ℤ → Type 0
IsCoordinate z = (neg_ℤ (pos (2 ^ 40)) <ℤ z) × (z <ℤ pos (2 ^ 40))

-- a point with such coordinates
abbrev pub IsPlaced : Pt → Type 0
IsPlaced p = IsCoordinate p.x × IsCoordinate p.y

abbrev pub mirrored : Bool → Pt → Pt
mirrored true p = record { x = p.x; y = neg_ℤ p.y }
mirrored false p = p

-- turned counterclockwise by as many quarters
abbrev pub turned : ℕ → Pt → Pt
turned zero p = p
turned (suc quarters) p = turned quarters (record { x = neg_ℤ p.y; y = p.x })

-- where a turn takes a point
abbrev pub apply_of : Turn → Pt → Pt
apply_of turn p = turned turn.quarter (mirrored turn.mirror p)
