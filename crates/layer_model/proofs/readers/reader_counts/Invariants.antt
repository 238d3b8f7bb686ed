use Rattle.std.proofs.Common.{◌≡◌, ℕ, ◌<◌, ◌≤◌, ◌*◌, length, take, slice_index}
use Rattle.layer_model.specs.Wirings.{reader_count}
use Rattle.layer_model.proofs.readers.reader_counts.Given as goal

abbrev pub invariant-loop-wire : goal.invariant-loop-wire
invariant-loop-wire l = (length l.counts.items ≡ length l.wires) × ((j : ℕ) → slice_index l.counts.items j ≤ 2 * l.wire-index) × ((j : ℕ) → j < length l.wires → slice_index l.counts.items j ≡ reader_count (take l.wire-index l.wires) j)
