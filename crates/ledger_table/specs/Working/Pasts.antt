-- The events that were made, and the room for more.
use Rattle.std.specs.Prelude.{ℕ, List}
use Rattle.ledger_history.specs.declared.event.Event.{Event}

pub record Made : Type 0 where
  pub events : List Event
  pub room : ℕ
