-- The base so many times, which fits.
use Rattle.std.proofs.Common.{◌≡◌, ◌≤◌, ◌^◌}
use Rattle.drc_num.specs.Fractions.{most}
use Rattle.drc_num.proofs.power.power.Given as goal

abbrev pub invariant-loop-turn : goal.invariant-loop-turn
invariant-loop-turn l = (l.product ≡ l.base ^ l._turn) × (l.product ≤ most)
