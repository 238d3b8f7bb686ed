-- Both turns at once are one after the other: quarters add up, and a reflection turns those before it round.
use Rattle.std.proofs.Common.{◌≡◌, ℕ, ◌+◌, ◌<◌, Bool, true, false, not, if◌then◌else◌, refl, sym, ap, ◌∙◌, arith}
use Rattle.drc_geom.specs.declared.point.Pt.{Pt}
use Rattle.drc_geom.specs.declared.turn.Turn.{Turn}
use Rattle.drc_geom.specs.Turns.{mirrored, turned, apply_of}
use Rattle.drc_geom.proofs.Turning.{mirrored_both, mirrored_turned, turned-add, turned_rem}
use Rattle.gds_placing.specs.Places.{behind, both_turns}

-- to turn and then reflect, or not, is to do so first and then turn by the quarters behind it
behind_turned : (b : Bool) (m : ℕ) (p : Pt) → mirrored b (turned m p) ≡ turned (behind b m) (mirrored b p)
behind_turned true m p = mirrored_turned m p
behind_turned false m p = refl

-- two reflections are none
mirrored_if : (a b : Bool) (p : Pt) → mirrored b (mirrored a p) ≡ mirrored (if b then not a else a) p
mirrored_if true true p = mirrored_both true true p
mirrored_if false true p = mirrored_both false true p
mirrored_if a false p = refl

pub both_turns_follow : (a b : Turn) (p : Pt) → apply_of (both_turns a b) p ≡ apply_of b (apply_of a p)
both_turns_follow a b p =
    sym (turned_rem (behind b.mirror a.quarter + b.quarter) _) ∙ turned-add (behind b.mirror a.quarter) b.quarter _
    ∙ ap (λ q. turned b.quarter (turned (behind b.mirror a.quarter) q)) (sym (mirrored_if a.mirror b.mirror p))
    ∙ ap (turned b.quarter) (sym (behind_turned b.mirror a.quarter (mirrored a.mirror p)))

pub both_turns_few : (a b : Turn) → (both_turns a b).quarter < 4
both_turns_few a b = omega arith
