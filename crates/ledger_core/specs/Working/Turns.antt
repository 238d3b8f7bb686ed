-- What a worker is at, and has in its hands, where so many places of its published operation are released.
use Rattle.std.specs.Prelude.{◌≡◌, ℕ, nat_le, true, false, if◌then◌else◌, List}
use Rattle.layer_model.specs.declared.wiring.Wire.{Wire}
use Rattle.layer_model.specs.Wirings.{input_count}
use Rattle.ledger_core.specs.declared.condition.Condition.{Condition}
use Rattle.ledger_core.specs.declared.condition.Condition.TheVariants.{Idle, Published}
use Rattle.ledger_core.specs.declared.answers.Given.{Given}
use Rattle.ledger_core.specs.declared.answers.Given.TheVariants as gives

abbrev pub condition_at : List Wire → ℕ → ℕ → Condition
condition_at ws op released = if nat_le (input_count ws op) released then Idle else Published op released

abbrev pub IsGivenAt : {J L : Type 0} → List Wire → ℕ → ℕ → ℕ → Given J L → Type 0
IsGivenAt ws w op released (gives.More p) = (nat_le (input_count ws op) released ≡ false) × (p ≡ record { worker = w; op = op; released = released })
IsGivenAt ws w op released (gives.Idle seat) = (nat_le (input_count ws op) released ≡ true) × (seat.worker ≡ w)
