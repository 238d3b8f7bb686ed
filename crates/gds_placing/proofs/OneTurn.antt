-- A turn of fewer than four quarters is known by where it takes the point (1, 2).
use Rattle.std.proofs.Common.{◌≡◌, ℕ, zero, suc, ◌<◌, Bool, true, false, ℤ, pos, negsuc, refl, sym, ap, ◌∙◌, arith}
use Rattle.drc_geom.specs.declared.point.Pt.{Pt}
use Rattle.drc_geom.specs.declared.turn.Turn.{Turn}
use Rattle.drc_geom.specs.Turns.{apply_of}

one_two : Pt
one_two = record { x = pos 1; y = pos 2 }

-- the turn that takes (1, 2) there
turn_of : ℤ → ℤ → Turn
turn_of (pos (suc (suc x))) (pos y) = record { mirror = true; quarter = 1 }
turn_of (pos x) (pos y) = record { mirror = false; quarter = 0 }
turn_of (negsuc zero) (pos y) = record { mirror = true; quarter = 2 }
turn_of (negsuc (suc x)) (pos y) = record { mirror = false; quarter = 1 }
turn_of (negsuc zero) (negsuc y) = record { mirror = false; quarter = 2 }
turn_of (negsuc (suc x)) (negsuc y) = record { mirror = true; quarter = 3 }
turn_of (pos x) (negsuc zero) = record { mirror = false; quarter = 3 }
turn_of (pos x) (negsuc (suc y)) = record { mirror = true; quarter = 0 }

turn_at : Pt → Turn
turn_at p = turn_of p.x p.y

turn_known : (mirror : Bool) (quarter : ℕ) → quarter < 4
    → turn_at (apply_of (record { mirror = mirror; quarter = quarter }) one_two)
    ≡ record { mirror = mirror; quarter = quarter }
unfolding turn_at turn_of one_two
turn_known false zero h = refl
turn_known false (suc zero) h = refl
turn_known false (suc (suc zero)) h = refl
turn_known false (suc (suc (suc zero))) h = refl
turn_known false (suc (suc (suc (suc n)))) h = absurd (omega arith)
turn_known true zero h = refl
turn_known true (suc zero) h = refl
turn_known true (suc (suc zero)) h = refl
turn_known true (suc (suc (suc zero))) h = refl
turn_known true (suc (suc (suc (suc n)))) h = absurd (omega arith)

pub one_turn : (a b : Turn) → a.quarter < 4 → b.quarter < 4 → ((p : Pt) → apply_of a p ≡ apply_of b p) → a ≡ b
one_turn a b ha hb e =
    sym (turn_known a.mirror a.quarter ha) ∙ ap turn_at (e one_two) ∙ turn_known b.mirror b.quarter hb
