-- Where a structure is drawn: reflected about the x axis or not, magnified, turned counterclockwise, and moved.
--
--      y                    the point (2, 1), reflected (2, -1), twice as great (4, -2), a quarter turned (2, 4),
--      |    . (2, 1)        and moved by (10, 0): (12, 4)
--   ---+------- x
use Rattle.std.specs.Prelude.{ℕ, ◌+◌, ◌*◌, ◌%◌, ◌^◌, ◌<◌, ◌≤◌, Bool, false, not, if◌then◌else◌, ◌&&◌, IsTrue, nat_le, pos, ◌+ℤ◌, ◌*ℤ◌, unsigned_abs}
use Rattle.drc_geom.specs.declared.point.Pt.{Pt}
use Rattle.drc_geom.specs.declared.turn.Turn.{Turn}
use Rattle.drc_geom.specs.Turns.{mirrored, turned}
use Rattle.gds_placing.specs.declared.place.Placement.{Placement}

-- so many times as far from (0, 0)
abbrev pub magnified : (times : ℕ) → Pt → Pt
magnified times p = record { x = pos times *ℤ p.x; y = pos times *ℤ p.y }

abbrev pub moved : (by p : Pt) → Pt
moved by p = record { x = by.x +ℤ p.x; y = by.y +ℤ p.y }

-- where a point of the structure is drawn
abbrev pub place_of : Placement → Pt → Pt
place_of place p =
    moved place.origin (turned place.turn.quarter (magnified place.magnification (mirrored place.turn.mirror p)))

-- where a structure is drawn as it stands
abbrev pub unmoved : Placement
unmoved = record {
  turn = record { mirror = false; quarter = 0 };
  magnification = 1;
  origin = record { x = pos 0; y = pos 0 };
}

-- ---- One place in another

-- Quarters before a reflection, as quarters behind it: they go the other way round, and three quarters are one
-- backwards.
abbrev pub behind : Bool → ℕ → ℕ
behind reflected quarters = if reflected then 3 * quarters else quarters

abbrev pub both_turns : (inner outer : Turn) → Turn
both_turns inner outer = record {
  mirror = if outer.mirror then not inner.mirror else inner.mirror;
  quarter = (behind outer.mirror inner.quarter + outer.quarter) % 4;
}

-- the place of what is drawn at a place in a structure that is itself drawn at a place
abbrev pub then_of : (inner outer : Placement) → Placement
then_of inner outer = record {
  turn = both_turns inner.turn outer.turn;
  magnification = inner.magnification * outer.magnification;
  origin = place_of outer inner.origin;
}

-- ---- What may be drawn

-- the point is within -2^30 to 2^30
abbrev pub is_reached : Pt → Bool
is_reached p = nat_le (unsigned_abs p.x) (2 ^ 30) && nat_le (unsigned_abs p.y) (2 ^ 30)

-- both coordinates have at most this magnitude
pub record IsNear (bound : ℕ) (p : Pt) : Type 0 where
  pub x : unsigned_abs p.x ≤ bound
  pub y : unsigned_abs p.y ≤ bound

-- a structure may be drawn at this place
pub record MayStand (place : Placement) : Type 0 where
  pub turned : place.turn.quarter < 4
  pub drawn : 1 ≤ place.magnification
  pub magnified : place.magnification ≤ 65536
  pub reached : IsTrue (is_reached place.origin)
