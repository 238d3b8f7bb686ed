use Rattle.std.proofs.Common.{◌≡◌, ℕ, length, Some}
use Rattle.std.specs.Prelude.{slice_get}
use Rattle.ledger_core.specs.declared.tokens.Seat.{Seat}
use Rattle.ledger_core.proofs.state.all_seats.Given as goal

abbrev pub invariant-loop-worker : goal.invariant-loop-worker
invariant-loop-worker l = (length l.seats.items ≡ l.worker) × ((w : ℕ) (seat : Seat) → slice_get l.seats.items w ≡ Some seat → seat.worker ≡ w)
