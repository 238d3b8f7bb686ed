use Rattle.std.proofs.Common.{◌≡◌, length}
use Rattle.deck_refusal.specs.Working.Recent.{begins_with}
use Rattle.deck_refusal.proofs.recent.begins_with.Given as goal

abbrev pub invariant-loop-wanted : goal.invariant-loop-wanted
invariant-loop-wanted l = begins_with l.wanted l.left ≡ begins_with l.those l.recent

abbrev pub decreases-loop-wanted : goal.decreases-loop-wanted
decreases-loop-wanted l = length l.wanted
