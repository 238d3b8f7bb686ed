use Rattle.std.proofs.Common.{ℕ, ◌+◌, take, drop, map, subst}
use Rattle.gds_records.specs.declared.record.Record.{Record}
use Rattle.gds_records.specs.Stream.{item_of}
use Rattle.gds_facts.specs.Facts.{AreFine, IsFact}
use Rattle.gds_facts.proofs.Lists.{parted}
use Rattle.gds_facts.proofs.list.first_fact.Goals as goal

pub returns-in-Err-clause-refused : goal.returns-in-Err-clause-refused
returns-in-Err-clause-refused c =
    let records = c.args.records.now in
    let i = c.loop-item.item-index in
    let here : Record = c.item-item.result in
    let before = map item_of (take i records) in
    let taken = c.loop-item.invariant.taken in
    let same = c.loop-item.invariant.same in
    let A : ℕ → Type 0 = λ p. AreFine p before in
    let F : ℕ → Type 0 = λ p. IsFact p before (item_of here) c.in-Err.refusal.kind in
    record {
      before = before;
      item = item_of here;
      after = map item_of (drop (i + 1) records);
      parts = parted item_of records i here c.loop-item-test.true c.item-item.is;
      fine = subst A same taken.fine;
      offset = c.in-Err.ensures.refused.0;
      fact = subst F same (c.in-Err.ensures.refused.1 before taken);
    }
