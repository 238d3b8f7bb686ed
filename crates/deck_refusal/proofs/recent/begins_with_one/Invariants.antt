use Rattle.std.proofs.Common.{◌≡◌, length, map}
use Rattle.deck_refusal.specs.Working.Recent.{begins_with_one}
use Rattle.deck_refusal.proofs.recent.begins_with_one.Given as goal

abbrev pub invariant-loop-left : goal.invariant-loop-left
invariant-loop-left l = begins_with_one (map (λ it. it.now) l.left) l.recent
    ≡ begins_with_one (map (λ it. it.now) l.all) l.recent

abbrev pub decreases-loop-left : goal.decreases-loop-left
decreases-loop-left l = length l.left
