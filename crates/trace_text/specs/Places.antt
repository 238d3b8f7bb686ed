-- Places: which line of a trace comes next, and which lines were read where it does.
use Rattle.std.specs.Prelude.{◌≡◌, ◌<◌, ◌^◌, List, [], ◌∷◌, ◌++◌, length, map}
use Rattle.std.specs.List.{AllByRecursion}
use Rattle.trace_line.specs.declared.line.Line.{Line}
use Rattle.trace_line.specs.declared.line.Line.TheVariants as lines
use Rattle.trace_line.specs.Lines.{HasText}
use Rattle.trace_text.specs.declared.place.LinePlace.{LinePlace}
use Rattle.trace_text.specs.declared.place.LinePlace.TheVariants.{Title, Operations, Workers, Budget, Costs, Events, Nothing}
use Rattle.trace_text.specs.Traces.{Told, cost_lines}

-- the lines that come before the line at this place, in a trace that tells this
abbrev pub lines_before : LinePlace → Told → List Line
lines_before Title t = []
lines_before Operations t = lines.Title ∷ []
lines_before Workers t = lines.Title ∷ lines.Operations t.operations ∷ []
lines_before Budget t = lines.Title ∷ lines.Operations t.operations ∷ lines.Workers t.workers ∷ []
lines_before Costs t = lines.Title ∷ lines.Operations t.operations ∷ lines.Workers t.workers ∷ lines.Budget t.budget ∷ cost_lines 0 t.costs
lines_before Events t =
    lines.Title ∷ lines.Operations t.operations ∷ lines.Workers t.workers ∷ lines.Budget t.budget
    ∷ (cost_lines 0 t.costs ++ map lines.Step t.events)
lines_before Nothing t =
    lines.Title ∷ lines.Operations t.operations ∷ lines.Workers t.workers ∷ lines.Budget t.budget
    ∷ (cost_lines 0 t.costs ++ (map lines.Step t.events ++ (lines.End ∷ [])))

-- how many costs and events were read at this place
abbrev pub CountsFit : LinePlace → Told → Type 0
CountsFit Costs t = (t.events ≡ []) × (length t.costs < t.operations)
CountsFit Events t = length t.costs ≡ t.operations
CountsFit Nothing t = length t.costs ≡ t.operations
CountsFit place t = (t.costs ≡ []) × (t.events ≡ [])

-- what was read of a trace up to this place
pub record IsReadTo (place : LinePlace) (t : Told) : Type 0 where
  pub operations : t.operations < 2 ^ 32
  pub workers : t.workers < 2 ^ 32
  pub budget : t.budget < 2 ^ 64
  pub costs : AllByRecursion (λ c. c < 2 ^ 64) t.costs
  pub events : AllByRecursion HasText t.events
  pub counts : CountsFit place t
