-- What is spelled so far, with the digits that are left, spells the whole; and how great it is.
use Rattle.std.proofs.Common.{◌≡◌, ◌+◌, ◌*◌, ◌^◌, ◌≤◌, drop}
use Rattle.deck_tree.specs.Worths.{decimal_from}
use Rattle.deck_tree.proofs.spelled.behind.Given as goal

abbrev pub invariant-loop-digit : goal.invariant-loop-digit
invariant-loop-digit l = record {
  value : decimal_from l.number (drop l.digit-index l.digits) ≡ decimal_from l.initial.number l.digits;
  bound : l.number + 23 ≤ (l.initial.number + 23) * 10 ^ l.digit-index;
}
