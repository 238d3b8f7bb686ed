use Rattle.std.proofs.Common.{◌≡◌, ℤ, drop}
use Rattle.list_facts.specs.EitherOr.{exactly_one}
use Rattle.row_state.specs.Entries.{value_from}
use Rattle.region_sweep.specs.Counts.{times}
use Rattle.region_sweep.specs.Working.Ends.{is_odd_number, odd_ends}
use Rattle.region_sweep.specs.Working.Sweeps.{repeated}
use Rattle.region_sweep.proofs.line.Sweeping.change_all.Given as goal

abbrev pub invariant-loop-flip : goal.invariant-loop-flip
invariant-loop-flip g l =
    ((x : ℤ) → repeated (g.C.Change.makes l.change) (times (drop l.flip-index l.flips) x) (value_from g.V.Value.zero l.self.row x) ≡ repeated (g.C.Change.makes l.change) (times l.flips x) (value_from g.V.Value.zero l.fn.self.row x))
    × ((x : ℤ) → exactly_one (odd_ends l.self.pending.items x) (g.E.Evaluator.inside l.evaluator (value_from g.V.Value.zero l.self.row x)) ≡ exactly_one (odd_ends l.fn.self.pending.items x) (g.E.Evaluator.inside l.evaluator (value_from g.V.Value.zero l.fn.self.row x)))
    × (is_odd_number l.self.pending.items ≡ is_odd_number l.fn.self.pending.items)
    × (l.self.flips.items ≡ l.fn.self.flips.items)
