-- What each call answers, and what it makes of the machine.
use Rattle.std.specs.Prelude.{◌≡◌, ℕ, ◌+◌, ◌<◌, true, false, ◌∷◌, slice_set}
use Rattle.ledger_history.specs.declared.event.Event.TheVariants.{Claim, Charge, Publish, Release, Stop}
use Rattle.ledger_history.specs.Histories.{Setup, is_stopped, is_finished, total, IsComplete}
use Rattle.ledger_history.specs.Enabled.{Enabled, IsReady, AllFinishedBelow}
use Rattle.ledger_core.specs.declared.condition.Condition.TheVariants.{Idle, Claimed, Charged, Published}
use Rattle.ledger_core.specs.declared.tokens.Seat.{Seat}
use Rattle.ledger_core.specs.declared.answers.Claim as claim
use Rattle.ledger_core.specs.declared.answers.Claim.TheVariants as claims
use Rattle.ledger_core.specs.declared.answers.ChargeAnswer as charge
use Rattle.ledger_core.specs.declared.answers.ChargeAnswer.TheVariants as charges
use Rattle.ledger_core.specs.declared.answers.Given as given
use Rattle.ledger_core.specs.declared.answers.Given.TheVariants as gives
use Rattle.ledger_core.specs.Tokens.{Holding, Releasing}
use Rattle.ledger_core.specs.Machines.{Machine, after}

-- A claim: one event, where some operation is ready. Nothing changes where the run is stopped, where it is complete, and
-- where no operation is ready.
abbrev pub Claims : {J L : Type 0} → Setup → Machine → Seat → claim.Claim J L → Machine → Type 0
Claims s old seat (claims.Work t) new =
    (t.worker ≡ seat.worker) × Enabled s old.events (Claim seat.worker t.op) × (new ≡ after old (Claim seat.worker t.op) seat.worker (Claimed t.op))
Claims s old seat (claims.NotYet r) new =
    (r ≡ seat) × (new ≡ old) × (is_stopped old.events ≡ false) × (IsComplete s old.events → ⊥) × ((i : ℕ) → IsReady s old.events i → ⊥)
Claims s old seat (claims.Done r) new = (r ≡ seat) × (new ≡ old) × (is_stopped old.events ≡ false) × IsComplete s old.events
Claims s old seat (claims.Stopped r) new = (r ≡ seat) × (new ≡ old) × (is_stopped old.events ≡ true)

-- What a claim answers where nobody is busy: an operation below which all is finished, or that the run is over. So it
-- doesn't answer that the worker has to wait, and no budget keeps the operation from its charge.
abbrev pub FindsLowest : {J L : Type 0} → Setup → claim.Claim J L → Machine → Type 0
FindsLowest s (claims.Work t) new = AllFinishedBelow s new.events t.op
FindsLowest s (claims.NotYet r) new = ⊥
FindsLowest s (claims.Done r) new = Unit {0}
FindsLowest s (claims.Stopped r) new = Unit {0}

-- A charge: one event, where it is admitted. Where the run is stopped the operation is dropped without an event, and
-- where it isn't admitted nothing changes.
abbrev pub Charges : {J L : Type 0} → Setup → Machine → Holding → ℕ → charge.ChargeAnswer J L → Machine → Type 0
Charges s old t cost (charges.Charged c) new =
    (c ≡ t) × Enabled s old.events (Charge t.worker t.op cost) × (new ≡ after old (Charge t.worker t.op cost) t.worker (Charged t.op))
Charges s old t cost (charges.NotYet r) new =
    (r ≡ t) × (new ≡ old) × (is_stopped old.events ≡ false) × (s.budget < total s old.events + cost) × (AllFinishedBelow s old.events t.op → ⊥)
Charges s old t cost (charges.Stopped seat) new =
    (seat.worker ≡ t.worker) × (is_stopped old.events ≡ true) × (new ≡ record { events = old.events; crew = slice_set old.crew t.worker Idle })

-- A publish: one event. The worker is idle after it exactly where it finishes the operation.
abbrev pub Publishes : {J L : Type 0} → Setup → Machine → Holding → given.Given J L → Machine → Type 0
Publishes s old c (gives.More p) new =
    (p ≡ record { worker = c.worker; op = c.op; released = 0 }) × Enabled s old.events (Publish c.worker c.op)
    × (is_finished s (Publish c.worker c.op ∷ old.events) c.op ≡ false) × (new ≡ after old (Publish c.worker c.op) c.worker (Published c.op 0))
Publishes s old c (gives.Idle seat) new =
    (seat.worker ≡ c.worker) × Enabled s old.events (Publish c.worker c.op)
    × (is_finished s (Publish c.worker c.op ∷ old.events) c.op ≡ true) × (new ≡ after old (Publish c.worker c.op) c.worker Idle)

-- A release of the next place: one event. The worker is idle after it exactly where it finishes the operation.
abbrev pub Releases : {J L : Type 0} → Setup → Machine → Releasing → given.Given J L → Machine → Type 0
Releases s old p (gives.More q) new =
    (q ≡ record { worker = p.worker; op = p.op; released = p.released + 1 }) × Enabled s old.events (Release p.worker p.op p.released)
    × (is_finished s (Release p.worker p.op p.released ∷ old.events) p.op ≡ false)
    × (new ≡ after old (Release p.worker p.op p.released) p.worker (Published p.op (p.released + 1)))
Releases s old p (gives.Idle seat) new =
    (seat.worker ≡ p.worker) × Enabled s old.events (Release p.worker p.op p.released)
    × (is_finished s (Release p.worker p.op p.released ∷ old.events) p.op ≡ true) × (new ≡ after old (Release p.worker p.op p.released) p.worker Idle)

-- a stop: one event, which drops the worker's operation
pub record Stops (s : Setup) (old : Machine) (t : Holding) (seat : Seat) (new : Machine) : Type 0 where
  pub worker : seat.worker ≡ t.worker
  pub enabled : Enabled s old.events (Stop t.worker)
  pub machine : new ≡ after old (Stop t.worker) t.worker Idle
