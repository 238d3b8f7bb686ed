use Rattle.std.proofs.Common.{◌≡◌, take, map}
use Rattle.gds_records.specs.Stream.{item_of}
use Rattle.gds_facts.specs.Facts.{HasTaken}
use Rattle.gds_facts.proofs.list.first_fact.Given as goal

abbrev pub invariant-loop-item : goal.invariant-loop-item
invariant-loop-item l = record {
  taken : HasTaken (map item_of (take l.item-index l.records)) l.checker;
  same : l.checker.precision ≡ l.precision;
}
