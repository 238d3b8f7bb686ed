use Rattle.std.proofs.Common.{◌≡◌, drop}
use Rattle.list_facts.specs.EitherOr.{exactly_one}
use Rattle.region_form.specs.Flips.{squares}
use Rattle.region_form.proofs.region.has_square.Given as goal

abbrev pub invariant-loop-flip : goal.invariant-loop-flip
invariant-loop-flip l =
    exactly_one l.is_in (squares (drop l.flip-index l.flips) l.x l.y) ≡ squares l.flips l.x l.y
