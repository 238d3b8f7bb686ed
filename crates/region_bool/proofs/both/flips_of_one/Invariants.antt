use Rattle.std.proofs.Common.{◌≡◌, ◌+◌, ◌++◌, [], None, length}
use Rattle.region_bool.specs.Working.Meetings.{IsPassing, listed}
use Rattle.region_bool.proofs.both.flips_of_one.Given as goal

abbrev pub invariant-loop-a : goal.invariant-loop-a
invariant-loop-a l =
    IsPassing l.first l.second (record { passed = l.passed.items; first = listed l.a ++ l.first_left; second = listed l.b ++ l.second_left })
    × (l.a ≡ None → l.first_left ≡ [])
    × (l.b ≡ None → l.second_left ≡ [])

abbrev pub decreases-loop-a : goal.decreases-loop-a
decreases-loop-a l = length (listed l.a ++ l.first_left) + length (listed l.b ++ l.second_left)
