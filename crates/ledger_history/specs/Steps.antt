-- Steps: the kinds of events, their workers, and that a run can go on.
use Rattle.std.specs.Prelude.{◌≡◌, ◌⊎◌, ℕ, Bool, true, false, ◌||◌, ◌==◌, List, [], ◌∷◌}
use Rattle.ledger_history.specs.declared.event.Event.{Event}
use Rattle.ledger_history.specs.declared.event.Event.TheVariants.{Claim, Charge, Publish, Release, Stop}
use Rattle.ledger_history.specs.Histories.{Setup}
use Rattle.ledger_history.specs.Enabled.{Enabled}

abbrev pub is_claim : Event → Bool
is_claim (Claim w i) = true
is_claim e = false

abbrev pub is_charge : Event → Bool
is_charge (Charge w i c) = true
is_charge e = false

abbrev pub is_publish : Event → Bool
is_publish (Publish w i) = true
is_publish e = false

abbrev pub is_release : Event → Bool
is_release (Release w i k) = true
is_release e = false

abbrev pub is_stop : Event → Bool
is_stop (Stop w) = true
is_stop e = false

-- the event is a stop of this worker
abbrev pub is_stop_of : ℕ → Event → Bool
is_stop_of v (Stop w) = w == v
is_stop_of v e = false

abbrev pub worker_of : Event → ℕ
worker_of (Claim w i) = w
worker_of (Charge w i c) = w
worker_of (Publish w i) = w
worker_of (Release w i k) = w
worker_of (Stop w) = w

-- the worker has a claim in the history
abbrev pub has_claim : List Event → ℕ → Bool
has_claim [] w = false
has_claim (Claim v i ∷ h) w = (v == w) || has_claim h w
has_claim (e ∷ h) w = has_claim h w

-- An event other than a stop may happen. It is one of a worker that has a claim, or nobody has one.
pub record CanGoOn (s : Setup) (h : List Event) : Type 0 where
  pub event : Event
  pub enabled : Enabled s h event
  pub goes_on : is_stop event ≡ false
  pub worker : (has_claim h (worker_of event) ≡ true) ⊎ ((w : ℕ) → has_claim h w ≡ false)
