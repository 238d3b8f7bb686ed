-- Working words of reading line by line: whether a line may stand at a place, and what it changes.
use Rattle.std.specs.Prelude.{◌≡◌, ℕ, ◌+◌, ◌≤◌, ◌==◌, nat_lt, Bool, true, false, List, [], ◌∷◌, ◌++◌, length, Option, Some, None, if◌then◌else◌}
use Rattle.std.specs.Borrow.{Bor}
use Rattle.trace_line.specs.declared.line.Line.{Line}
use Rattle.trace_line.specs.declared.line.Line.TheVariants as lines
use Rattle.trace_line.specs.Lines.{Begins}
use Rattle.trace_text.specs.declared.place.LinePlace.{LinePlace}
use Rattle.trace_text.specs.declared.place.LinePlace.TheVariants.{Title, Operations, Workers, Budget, Costs, Events, Nothing}
use Rattle.trace_text.specs.Traces.{Told, text_of}
use Rattle.trace_text.specs.Places.{lines_before, IsReadTo}

-- whether the line is of the form for the place, where so many costs were read
abbrev pub admits : LinePlace → ℕ → Line → Bool
admits Title count lines.Title = true
admits Operations count (lines.Operations n) = true
admits Workers count (lines.Workers n) = true
admits Budget count (lines.Budget n) = true
admits Costs count (lines.Cost i c) = i == count
admits Events count (lines.Step e) = true
admits Events count lines.End = true
admits place count l = false

-- what is told with one more line
abbrev pub with_line : Told → Line → Told
with_line t (lines.Operations n) = record { operations = n; workers = t.workers; budget = t.budget; costs = t.costs; events = t.events }
with_line t (lines.Workers n) = record { operations = t.operations; workers = n; budget = t.budget; costs = t.costs; events = t.events }
with_line t (lines.Budget n) = record { operations = t.operations; workers = t.workers; budget = n; costs = t.costs; events = t.events }
with_line t (lines.Cost i c) = record { operations = t.operations; workers = t.workers; budget = t.budget; costs = t.costs ++ c ∷ []; events = t.events }
with_line t (lines.Step e) = record { operations = t.operations; workers = t.workers; budget = t.budget; costs = t.costs; events = t.events ++ e ∷ [] }
with_line t lines.Title = t
with_line t lines.End = t

-- where costs are left, and where none is
abbrev pub costs_or_events : ℕ → ℕ → LinePlace
costs_or_events count operations = if nat_lt count operations then Costs else Events

-- the place behind a line, where it has been told
abbrev pub place_behind : LinePlace → Line → Told → LinePlace
place_behind Title l t = Operations
place_behind Operations l t = Workers
place_behind Workers l t = Budget
place_behind Budget l t = costs_or_events (length t.costs) t.operations
place_behind Costs l t = costs_or_events (length t.costs) t.operations
place_behind Events lines.End t = Nothing
place_behind Events l t = Events
place_behind Nothing l t = Nothing

-- the line that was found at a place is admitted there and begins the text, and none does where none was found
abbrev pub Finds : LinePlace → ℕ → List ℕ → Option (Line × Bor (List ℕ)) → Type 0
Finds place count text None = (l : Line) (rest : List ℕ) → Begins text l rest → admits place count l ≡ true → ⊥
Finds place count text (Some x) = Begins text x.0 x.1.now × (admits place count x.0 ≡ true)

-- the first lines of a text, up to a place, and the rest behind them
pub record IsReading (text : List ℕ) (place : LinePlace) (t : Told) (rest : List ℕ) (count : ℕ) : Type 0 where
  pub read : IsReadTo place t
  pub parts : text ≡ text_of (lines_before place t) ++ rest
  pub lines : count ≡ length (lines_before place t)
  pub few : count + length rest ≤ length text
