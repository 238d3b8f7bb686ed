use Rattle.std.proofs.Common.{◌≡◌, ℕ, ◌<◌, Some}
use Rattle.std.specs.Prelude.{slice_get}
use Rattle.layer_model.specs.declared.wiring.Wire.{Wire}
use Rattle.layer_model.specs.Working.Forms.{IsFormed}
use Rattle.layer_model.proofs.wiring.all_formed.Given as goal

abbrev pub invariant-loop-op : goal.invariant-loop-op
invariant-loop-op l = (i : ℕ) (w : Wire) → i < l.op → slice_get l.wires i ≡ Some w → IsFormed w i
