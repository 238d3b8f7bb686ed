-- Refusals: the faults of a text, each at its line, and which is the first. Lines are counted from 1.
use Rattle.std.specs.Prelude.{◌≡◌, ◌≢◌, ◌⊎◌, ℕ, ◌+◌, ◌<◌, ◌≤◌, List, [], ◌∷◌, ◌++◌, length, slice_index, Option, None, Some}
use Rattle.layer_model.specs.declared.wiring.Wire.{Wire}
use Rattle.ledger_history.specs.declared.event.Event.{Event}
use Rattle.ledger_history.specs.declared.event.Event.TheVariants.{Claim, Charge, Publish, Release, Stop}
use Rattle.ledger_history.specs.Histories.{Setup, IsComplete}
use Rattle.ledger_history.specs.Enabled.{Enabled}
use Rattle.ledger_record.specs.Records.{past_of}
use Rattle.trace_line.specs.declared.line.Line.{Line}
use Rattle.trace_line.specs.declared.line.Line.TheVariants.{Operations, Workers, Budget, Cost, Step, End}
use Rattle.trace_text.specs.declared.fault.TraceReason.{TraceReason}
use Rattle.trace_text.specs.declared.fault.TraceReason.TheVariants.{TooLong, Syntax, HeaderMismatch, WrongCharge, NotEnabled, Unfinished}
use Rattle.trace_text.specs.declared.fault.TraceRefusal.{TraceRefusal}
use Rattle.trace_text.specs.Traces.{Told, Spells, longest_trace}
use Rattle.trace_text.specs.Fronts.{Reaches, EndsAt}

-- ---- the form of the text

-- The line at which the text is no trace any more: those before it are the first lines of some trace, and no line of the
-- form for its place stands there, or the text ends, or goes on behind its last line.
pub record IsSyntaxFault (text : List ℕ) (line : ℕ) : Type 0 where
  pub before : List Line
  pub rest : List ℕ
  pub reached : Reaches text before rest
  pub at : line ≡ length before + 1
  pub ends : EndsAt before rest
  pub unspelled : (t : Told) → Spells text t → ⊥

-- ---- what the lines say

-- what a trace is held against: the wiring, and the number of workers and the budget, where they are asked for
pub record Terms : Type 0 where
  pub wires : List Wire
  pub workers : Option ℕ
  pub budget : Option ℕ

-- the number that lines give, the last one if there are several, and 0 where there is none
abbrev pub workers_in : List Line → ℕ
workers_in [] = 0
workers_in (Workers n ∷ ls) = n
workers_in (l ∷ ls) = workers_in ls

abbrev pub budget_in : List Line → ℕ
budget_in [] = 0
budget_in (Budget n ∷ ls) = n
budget_in (l ∷ ls) = budget_in ls

abbrev pub costs_in : List Line → List ℕ
costs_in [] = []
costs_in (Cost i c ∷ ls) = c ∷ costs_in ls
costs_in (l ∷ ls) = costs_in ls

abbrev pub events_in : List Line → List Event
events_in [] = []
events_in (Step e ∷ ls) = e ∷ events_in ls
events_in (l ∷ ls) = events_in ls

-- what is fixed for the run whose trace has these lines
abbrev pub setup_in : Terms → List Line → Setup
setup_in terms ls = record { wires = terms.wires; cost = λ i. slice_index (costs_in ls) i; budget = budget_in ls; workers = workers_in ls }

-- the events of these lines, newest first
abbrev pub past_in : List Line → List Event
past_in ls = past_of (events_in ls)

-- a number was asked for, and this is another one
abbrev pub Differs : Option ℕ → ℕ → Type 0
Differs None n = ⊥
Differs (Some asked) n = asked ≢ n

-- a charge of an operation that has another cost
abbrev pub IsWrongCharge : List ℕ → Event → Type 0
IsWrongCharge costs (Charge w i c) = (i < length costs) × (slice_index costs i ≢ c)
IsWrongCharge costs (Claim w i) = ⊥
IsWrongCharge costs (Publish w i) = ⊥
IsWrongCharge costs (Release w i k) = ⊥
IsWrongCharge costs (Stop w) = ⊥

-- the line behind these lines is at fault for this reason
abbrev pub Offends : Terms → List Line → Line → TraceReason → Type 0
Offends terms before (Operations n) HeaderMismatch = n ≢ length terms.wires
Offends terms before (Workers n) HeaderMismatch = ((n < 1) ⊎ (64 < n)) ⊎ Differs terms.workers n
Offends terms before (Budget n) HeaderMismatch = Differs terms.budget n
Offends terms before (Step e) WrongCharge = IsWrongCharge (costs_in before) e
Offends terms before (Step e) NotEnabled = Enabled (setup_in terms before) (past_in before) e → ⊥
Offends terms before End Unfinished = IsComplete (setup_in terms before) (past_in before) → ⊥
Offends terms before l reason = ⊥

-- the text has this line behind these, and they are the first lines of some trace
pub record ComesTo (text : List ℕ) (before : List Line) (l : Line) : Type 0 where
  pub rest : List ℕ
  pub reached : Reaches text (before ++ l ∷ []) rest

-- a line of the text is at fault for this reason
pub record IsOffence (terms : Terms) (text : List ℕ) (line : ℕ) (reason : TraceReason) : Type 0 where
  pub before : List Line
  pub here : Line
  pub comes : ComesTo text before here
  pub at : line ≡ length before + 1
  pub offends : Offends terms before here reason

-- ---- the faults

-- a text of too many bytes is at fault before its first line
abbrev pub IsFault : Terms → List ℕ → ℕ → TraceReason → Type 0
IsFault terms text line TooLong = (line ≡ 0) × (longest_trace < length text)
IsFault terms text line Syntax = IsSyntaxFault text line
IsFault terms text line reason = IsOffence terms text line reason

-- of two reasons at one line the lower one comes first
abbrev pub rank : TraceReason → ℕ
rank TooLong = 0
rank Syntax = 1
rank HeaderMismatch = 2
rank WrongCharge = 3
rank NotEnabled = 4
rank Unfinished = 5

-- the first fault of the text
pub record IsFirstFault (terms : Terms) (text : List ℕ) (r : TraceRefusal) : Type 0 where
  pub fault : IsFault terms text r.line r.reason
  pub first : (line : ℕ) (reason : TraceReason) → IsFault terms text line reason → (r.line < line) ⊎ ((r.line ≡ line) × (rank r.reason ≤ rank reason))
