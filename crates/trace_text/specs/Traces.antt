-- Traces: what a trace tells, and its one text.
use Rattle.std.specs.Prelude.{◌≡◌, ℕ, ◌+◌, ◌<◌, ◌^◌, List, [], ◌∷◌, ◌++◌, length, map}
use Rattle.std.specs.List.{AllByRecursion, flat_map}
use Rattle.ledger_history.specs.declared.event.Event.{Event}
use Rattle.trace_line.specs.declared.line.Line.{Line}
use Rattle.trace_line.specs.declared.line.Line.TheVariants.{Title, Operations, Workers, Budget, Cost, Step, End}
use Rattle.trace_line.specs.Lines.{line_text, HasText}
use Rattle.trace_text.specs.declared.trace.Trace.{Trace}

-- what a trace tells: the numbers of its header, the costs by operation, and the events, oldest first
pub record Told : Type 0 where
  pub operations : ℕ
  pub workers : ℕ
  pub budget : ℕ
  pub costs : List ℕ
  pub events : List Event

-- what a trace tells, without where it lies in memory
abbrev pub told : Trace → Told
told t = record {
  operations = t.history.operations;
  workers = t.history.workers;
  budget = t.history.budget;
  costs = t.costs.items;
  events = t.history.events.items;
}

-- ---- the lines

-- the lines of costs, from operation i on
abbrev pub cost_lines : ℕ → List ℕ → List Line
cost_lines i [] = []
cost_lines i (c ∷ cs) = Cost i c ∷ cost_lines (i + 1) cs

-- the title, the numbers, a cost for each operation, the events, and the end
abbrev pub lines_of : Told → List Line
lines_of t =
    Title ∷ Operations t.operations ∷ Workers t.workers ∷ Budget t.budget
    ∷ (cost_lines 0 t.costs ++ (map Step t.events ++ (End ∷ [])))

-- the texts of these lines, one behind the other
abbrev pub text_of : List Line → List ℕ
text_of ls = flat_map line_text ls

-- What has a text: each operation has its cost, no event is a stop, the budget and all costs are below 2 ^ 64, and all
-- other numbers below 2 ^ 32.
pub record IsTrace (t : Told) : Type 0 where
  pub operations : t.operations < 2 ^ 32
  pub workers : t.workers < 2 ^ 32
  pub budget : t.budget < 2 ^ 64
  pub count : length t.costs ≡ t.operations
  pub costs : AllByRecursion (λ c. c < 2 ^ 64) t.costs
  pub events : AllByRecursion HasText t.events

-- the text is that of the trace
pub record Spells (text : List ℕ) (t : Told) : Type 0 where
  pub trace : IsTrace t
  pub same : text ≡ text_of (lines_of t)

-- the most bytes of a trace that is read
abbrev pub longest_trace : ℕ
longest_trace = 4194304
