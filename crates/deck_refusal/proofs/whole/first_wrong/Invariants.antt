use Rattle.std.proofs.Common.{◌-◌, length}
use Rattle.deck_refusal.specs.Working.Walking.{HasRead}
use Rattle.deck_refusal.proofs.whole.first_wrong.Given as goal

abbrev pub invariant-loop-token : goal.invariant-loop-token
invariant-loop-token l = HasRead l.text l.at l.walk

abbrev pub decreases-loop-token : goal.decreases-loop-token
decreases-loop-token l = length l.text - l.at
