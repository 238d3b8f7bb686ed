-- Working words of the costs of charges: what one event more says of them.
use Rattle.std.specs.Prelude.{◌≡◌, ℕ, ◌<◌, ◌^◌, ◌==◌, false, if◌then◌else◌}
use Rattle.ledger_history.specs.declared.event.Event.{Event}
use Rattle.ledger_history.specs.declared.event.Event.TheVariants.{Claim, Charge, Publish, Release, Stop}
use Rattle.ledger_history.specs.Steps.{is_stop}
use Rattle.trace_line.specs.Lines.{HasText}

-- the cost of operation i with one event more, where it was so much before
abbrev pub cost_with : Event → ℕ → ℕ → ℕ
cost_with (Charge w j c) before i = if j == i then c else before
cost_with (Claim w j) before i = before
cost_with (Publish w j) before i = before
cost_with (Release w j k) before i = before
cost_with (Stop w) before i = before

-- an event of numbers in range has a text, unless it is a stop
abbrev pub HasTextIfNoStop : Event → Type 0
HasTextIfNoStop e = is_stop e ≡ false → HasText e

-- the numbers of a header are in range
pub record HeaderFits (operations workers budget : ℕ) : Type 0 where
  pub few_operations : operations < 2 ^ 32
  pub few_workers : workers < 2 ^ 32
  pub small_budget : budget < 2 ^ 64
