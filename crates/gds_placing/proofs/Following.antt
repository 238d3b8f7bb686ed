-- One place in another.
use Rattle.std.proofs.Common.{◌≡◌, ℕ, ◌*◌, ℤ, pos, ◌+ℤ◌, ◌*ℤ◌, sym, ap, ◌∙◌, arith}
use Rattle.std.proofs.lemmas.Int.{ints}
use Rattle.drc_geom.specs.declared.point.Pt.{Pt}
use Rattle.drc_geom.specs.Turns.{mirrored, turned, apply_of}
use Rattle.gds_placing.specs.declared.place.Placement.{Placement}
use Rattle.gds_placing.specs.Places.{magnified, moved, place_of, then_of, unmoved}
use Rattle.gds_placing.proofs.Turning.{both_turns_follow}
use Rattle.gds_placing.proofs.Linear.{mirrored-moved, turned-moved, magnified-moved, moved-moved, mirrored-magnified, turned-magnified, magnified-magnified}

-- what is magnified at last is magnified before it is turned
pub magnified_last : (place : Placement) (p : Pt)
    → moved place.origin (magnified place.magnification (apply_of place.turn p)) ≡ place_of place p
magnified_last place p =
    ap (moved place.origin) (sym (turned-magnified place.turn.quarter place.magnification
    (mirrored place.turn.mirror p)))

-- a place, without its move
unmoved_of : Placement → Pt → Pt
unmoved_of place p = turned place.turn.quarter (magnified place.magnification (mirrored place.turn.mirror p))

drawn_moved : (place : Placement) (by p : Pt)
    → unmoved_of place (moved by p) ≡ moved (unmoved_of place by) (unmoved_of place p)
unfolding unmoved_of
drawn_moved place by p =
    ap (λ q. turned place.turn.quarter (magnified place.magnification q)) (mirrored-moved place.turn.mirror by p)
    ∙ ap (turned place.turn.quarter) (magnified-moved place.magnification (mirrored place.turn.mirror by)
    (mirrored place.turn.mirror p))
    ∙ turned-moved place.turn.quarter (magnified place.magnification (mirrored place.turn.mirror by))
    (magnified place.magnification (mirrored place.turn.mirror p))

drawn_last : (place : Placement) (p : Pt) → unmoved_of place p ≡ magnified place.magnification (apply_of place.turn p)
unfolding unmoved_of
drawn_last place p = turned-magnified place.turn.quarter place.magnification (mirrored place.turn.mirror p)

apply-magnified : (place : Placement) (k : ℕ) (p : Pt)
    → apply_of place.turn (magnified k p) ≡ magnified k (apply_of place.turn p)
apply-magnified place k p =
    ap (turned place.turn.quarter) (mirrored-magnified place.turn.mirror k p)
    ∙ turned-magnified place.turn.quarter k (mirrored place.turn.mirror p)

drawn_twice : (inner outer : Placement) (p : Pt)
    → unmoved_of (then_of inner outer) p ≡ unmoved_of outer (unmoved_of inner p)
drawn_twice inner outer p =
    drawn_last (then_of inner outer) p
    ∙ ap (magnified (inner.magnification * outer.magnification)) (both_turns_follow inner.turn outer.turn p)
    ∙ sym (magnified-magnified outer.magnification inner.magnification (apply_of outer.turn (apply_of inner.turn p)))
    ∙ ap (magnified outer.magnification) (sym (apply-magnified outer inner.magnification (apply_of inner.turn p)))
    ∙ sym (drawn_last outer (magnified inner.magnification (apply_of inner.turn p)))
    ∙ ap (unmoved_of outer) (sym (drawn_last inner p))

pub places_follow : (inner outer : Placement) (p : Pt)
    → place_of (then_of inner outer) p ≡ place_of outer (place_of inner p)
unfolding unmoved_of
places_follow inner outer p =
    ap (moved (place_of outer inner.origin)) (drawn_twice inner outer p)
    ∙ sym (moved-moved outer.origin (unmoved_of outer inner.origin) (unmoved_of outer (unmoved_of inner p)))
    ∙ ap (moved outer.origin) (sym (drawn_moved outer inner.origin (unmoved_of inner p)))

sum_zero : (z : ℤ) → pos 0 +ℤ (pos 1 *ℤ z) ≡ z
sum_zero z = omega (arith, ints)

pub unmoved_stays : (p : Pt) → place_of unmoved p ≡ p
unmoved_stays p = λ i. record { x = sum_zero p.x i; y = sum_zero p.y i }
