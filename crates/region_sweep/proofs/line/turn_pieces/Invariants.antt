use Rattle.std.proofs.Common.{◌≡◌, ℤ, drop}
use Rattle.list_facts.specs.EitherOr.{exactly_one}
use Rattle.region_sweep.specs.Working.Ends.{is_odd_number, odd_ends}
use Rattle.region_sweep.specs.Working.Sweeps.{turned}
use Rattle.region_sweep.proofs.line.turn_pieces.Given as goal

abbrev pub invariant-loop-piece : goal.invariant-loop-piece
invariant-loop-piece g l =
    ((x : ℤ) → exactly_one (odd_ends l.ends.items x) (turned (g.E.Evaluator.inside l.evaluator) (g.C.Change.makes l.change) (drop l.piece-index l.pieces) x) ≡ exactly_one (odd_ends l.fn.ends.items x) (turned (g.E.Evaluator.inside l.evaluator) (g.C.Change.makes l.change) l.pieces x))
    × (is_odd_number l.ends.items ≡ is_odd_number l.fn.ends.items)
