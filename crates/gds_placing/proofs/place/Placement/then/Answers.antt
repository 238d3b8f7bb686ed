use Rattle.std.proofs.Common.{◌*◌, sym, ◌∙◌}
use Rattle.gds_placing.specs.declared.place.Placement.{Placement}
use Rattle.gds_placing.specs.Places.{both_turns}
use Rattle.gds_placing.proofs.OneTurn.{one_turn}
use Rattle.gds_placing.proofs.Turning.{both_turns_follow, both_turns_few}
use Rattle.gds_placing.proofs.place.Placement.then.Goals as goal

pub returns : goal.returns
returns c =
    let inner = c.args.self.now in
    let outer = c.args.outer.now in
    let turn =
    one_turn c.then.result (both_turns inner.turn outer.turn) c.then.ensures.reduced
    (both_turns_few inner.turn outer.turn)
    (λ p. c.then.ensures.follows p ∙ sym (both_turns_follow inner.turn outer.turn p)) in
    let both = inner.magnification * outer.magnification in
    λ i.
    let r : Placement = record { turn = turn i; magnification = both; origin = c.apply.ensures i } in
    r
