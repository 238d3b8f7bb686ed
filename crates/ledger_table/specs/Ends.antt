-- These are working words: which operations are finished from the lowest on.
use Rattle.std.specs.Prelude.{◌≡◌, ℕ, ◌≤◌, false, List, length}
use Rattle.layer_model.specs.declared.wiring.Wire.{Wire}
use Rattle.ledger_history.specs.declared.event.Event.{Event}
use Rattle.ledger_history.specs.Histories.{is_finished}
use Rattle.ledger_history.specs.Enabled.{AllFinishedBelow}
use Rattle.ledger_table.specs.Marks.{wired}

-- operation m isn't finished, or there is none, and each lower one is
pub record IsLowest (ws : List Wire) (h : List Event) (m : ℕ) : Type 0 where
  pub there : m ≤ length ws
  pub below : AllFinishedBelow (wired ws) h m
  pub unfinished : is_finished (wired ws) h m ≡ false
