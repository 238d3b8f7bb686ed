-- Jobs: what is fixed for a run, by the type of its job, and which layers an operation is given.
use Rattle.std.specs.Prelude.{◌≡◌, ℕ, List, Option, None, Some}
use Rattle.layer_model.specs.declared.wiring.Wire.{Wire}
use Rattle.ledger_history.specs.Histories.{Setup}

-- what is fixed for a run
abbrev pub setup_for : List Wire → (ℕ → ℕ) → ℕ → ℕ → Setup
setup_for ws cost budget workers = record { wires = ws; cost = cost; budget = budget; workers = workers }

-- for an input there is a layer, which is right for the input's operation, and for no input there is none
abbrev pub IsGiven : {L : Type 0} → (ℕ → L → Type 0) → Option ℕ → Option L → Type 0
IsGiven right None None = Unit {0}
IsGiven right None (Some l) = ⊥
IsGiven right (Some j) None = ⊥
IsGiven right (Some j) (Some l) = right j l
