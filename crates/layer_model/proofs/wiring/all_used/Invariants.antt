use Rattle.std.proofs.Common.{◌≡◌, ◌⊎◌, ℕ, ◌<◌, true}
use Rattle.layer_model.specs.Wirings.{is_reported, reader_count}
use Rattle.layer_model.proofs.wiring.all_used.Given as goal

abbrev pub invariant-loop-op : goal.invariant-loop-op
invariant-loop-op l = (i : ℕ) → i < l.op → (is_reported l.wires i ≡ true) ⊎ (0 < reader_count l.wires i)
