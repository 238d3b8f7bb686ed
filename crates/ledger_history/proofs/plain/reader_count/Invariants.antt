use Rattle.std.proofs.Common.{◌≡◌, ◌≤◌, ◌*◌, take}
use Rattle.layer_model.specs.Wirings.{reader_count}
use Rattle.ledger_history.proofs.plain.reader_count.Given as goal

abbrev pub invariant-loop-wire : goal.invariant-loop-wire
invariant-loop-wire l = (l.count ≡ reader_count (take l.wire-index l.wires) l.op) × (l.count ≤ 2 * l.wire-index)
