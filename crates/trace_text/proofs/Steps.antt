-- One line more, where it is of the form for its place.
use Rattle.std.proofs.Common.{◌≡◌, ℕ, ◌+◌, ◌<◌, ◌≤◌, ◌^◌, Bool, true, false, ltb, cond, List, [], ◌∷◌, ◌++◌, length, map, refl, sym, ap, subst, ◌∙◌, append_assoc, append-nil, length-append, arith}
use Rattle.std.specs.List.{AllByRecursion}
use Rattle.std.proofs.lemmas.Bool.{ltb-true, ltb-false, eqb-true}
use Rattle.list_facts.proofs.Members.{all_append}
use Rattle.trace_line.specs.declared.line.Line.{Line}
use Rattle.trace_line.specs.declared.line.Line.TheVariants as lines
use Rattle.trace_line.specs.Lines.{IsLine, HasText}
use Rattle.trace_text.specs.declared.place.LinePlace.{LinePlace}
use Rattle.trace_text.specs.declared.place.LinePlace.TheVariants.{Title, Operations, Workers, Budget, Costs, Events}
use Rattle.trace_text.specs.Traces.{Told, cost_lines}
use Rattle.trace_text.specs.Places.{lines_before, IsReadTo}
use Rattle.trace_text.specs.Working.Places.{admits, with_line, costs_or_events, place_behind}
use Rattle.trace_text.proofs.LineLists.{cost_lines-append, map_step-append}

-- the lines up to the next place are those before and this one
pub record Follows (place : LinePlace) (t : Told) (next : LinePlace) (u : Told) (l : Line) : Type 0 where
  pub read : IsReadTo next u
  pub lines : lines_before next u ≡ lines_before place t ++ l ∷ []

-- the lines of the header and the costs
abbrev header_and : Told → List Line → List Line
header_and t ls = lines.Title ∷ lines.Operations t.operations ∷ lines.Workers t.workers ∷ lines.Budget t.budget ∷ ls

record AtCosts (t : Told) : Type 0 where
  operations : t.operations < 2 ^ 32
  workers : t.workers < 2 ^ 32
  budget : t.budget < 2 ^ 64
  costs : AllByRecursion (λ c. c < 2 ^ 64) t.costs
  none : t.events ≡ []
  few : length t.costs ≤ t.operations

no_events : (t : Told) → t.events ≡ [] → lines_before Events t ≡ header_and t (cost_lines 0 t.costs)
no_events t e = ap (λ es. header_and t (cost_lines 0 t.costs ++ map lines.Step es)) e ∙ ap (header_and t) (append-nil (cost_lines 0 t.costs))

read_by : (more : Bool) (t : Told) → ltb (length t.costs) t.operations ≡ more → AtCosts t
    → IsReadTo (cond more Costs Events) t × (lines_before (cond more Costs Events) t ≡ header_and t (cost_lines 0 t.costs))
read_by true t e a = (
  record { operations = a.operations; workers = a.workers; budget = a.budget; costs = a.costs; events = subst (AllByRecursion HasText) (sym a.none) tt; counts = (a.none, ltb-true (length t.costs) t.operations e) },
  refl,
)
read_by false t e a = (
  record { operations = a.operations; workers = a.workers; budget = a.budget; costs = a.costs; events = subst (AllByRecursion HasText) (sym a.none) tt; counts = omega (arith, a.few, ltb-false (length t.costs) t.operations e) },
  no_events t a.none,
)

read_costs : (t : Told) → AtCosts t → IsReadTo (costs_or_events (length t.costs) t.operations) t × (lines_before (costs_or_events (length t.costs) t.operations) t ≡ header_and t (cost_lines 0 t.costs))
read_costs t a = read_by (ltb (length t.costs) t.operations) t refl a

pub follows : (place : LinePlace) (t : Told) (l : Line) → IsReadTo place t → IsLine l → admits place (length t.costs) l ≡ true → Follows place t (place_behind place l (with_line t l)) (with_line t l) l
follows Title t lines.Title r h a = record { read = record { operations = r.operations; workers = r.workers; budget = r.budget; costs = r.costs; events = r.events; counts = r.counts }; lines = refl }
follows Operations t (lines.Operations n) r h a = record { read = record { operations = h; workers = r.workers; budget = r.budget; costs = r.costs; events = r.events; counts = r.counts }; lines = refl }
follows Workers t (lines.Workers n) r h a = record { read = record { operations = r.operations; workers = h; budget = r.budget; costs = r.costs; events = r.events; counts = r.counts }; lines = refl }
follows Budget t (lines.Budget n) r h a =
    let u : Told = with_line t (lines.Budget n) in
    let q = read_costs u (record { operations = r.operations; workers = r.workers; budget = h; costs = r.costs; none = r.counts.1; few = omega (arith, ap (λ (x : List ℕ). length x) r.counts.0) }) in
    record { read = q.0; lines = q.1 ∙ ap (λ x. header_and u (cost_lines 0 x)) r.counts.0 }
follows Costs t (lines.Cost i c) r h a =
    let u : Told = with_line t (lines.Cost i c) in
    let n : i ≡ length t.costs = eqb-true i (length t.costs) a in
    let grown : length (t.costs ++ c ∷ []) ≡ length t.costs + 1 = length-append t.costs (c ∷ []) in
    let q = read_costs u (record {
      operations = r.operations;
      workers = r.workers;
      budget = r.budget;
      costs = all_append (λ x. x < 2 ^ 64) t.costs (c ∷ []) r.costs (h.1, tt);
      none = r.counts.0;
      few = omega (arith, grown, r.counts.1);
    }) in
    let m : 0 + length t.costs ≡ i = omega (arith, n) in
    record { read = q.0; lines = q.1 ∙ ap (header_and u) (cost_lines-append 0 t.costs (c ∷ []) ∙ ap (λ k. cost_lines 0 t.costs ++ lines.Cost k c ∷ []) m) }
follows Events t (lines.Step e) r h a =
    record {
      read = record { operations = r.operations; workers = r.workers; budget = r.budget; costs = r.costs; events = all_append HasText t.events (e ∷ []) r.events (h, tt); counts = r.counts };
      lines = ap (header_and t) (ap (λ x. cost_lines 0 t.costs ++ x) (map_step-append t.events (e ∷ [])) ∙ sym (append_assoc (cost_lines 0 t.costs) (map lines.Step t.events) (lines.Step e ∷ [])));
    }
follows Events t lines.End r h a =
    record {
      read = record { operations = r.operations; workers = r.workers; budget = r.budget; costs = r.costs; events = r.events; counts = r.counts };
      lines = ap (header_and t) (sym (append_assoc (cost_lines 0 t.costs) (map lines.Step t.events) (lines.End ∷ [])));
    }
follows place t l r h a = absurd cc
