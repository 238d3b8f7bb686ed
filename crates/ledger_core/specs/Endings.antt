-- Endings: what a run leaves.
use Rattle.std.specs.Prelude.{◌≡◌, ℕ, nat_lt, List, length, Some, slice_get}
use Rattle.layer_model.specs.declared.wiring.Wire.{Wire}
use Rattle.layer_model.specs.Wirings.{is_reported}
use Rattle.ledger_history.specs.declared.event.Event.{Event}
use Rattle.ledger_history.specs.Histories.{Setup}
use Rattle.ledger_record.specs.declared.history.History.{History}
use Rattle.ledger_record.specs.Records.{past, IsLegalFor}
use Rattle.ledger_core.specs.Tokens.{Stock}

-- the record is of a run of this setup with these events, newest first, which are legal
pub record IsRecordOf (s : Setup) (events : List Event) (r : History) : Type 0 where
  pub budget : r.budget ≡ s.budget
  pub workers : r.workers ≡ s.workers
  pub made : past r ≡ events
  pub legal : IsLegalFor s.wires s.cost r

-- there are copies of the reported layers alone
pub record ShowsReported (ws : List Wire) (stocks : List Stock) : Type 0 where
  pub all : length stocks ≡ length ws
  pub op : (j : ℕ) (x : Stock) → slice_get stocks j ≡ Some x → x.op ≡ j
  pub shown : (j : ℕ) (x : Stock) → slice_get stocks j ≡ Some x → nat_lt 0 x.count ≡ is_reported ws j
