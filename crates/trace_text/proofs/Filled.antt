-- What was read up to a place are the first lines of some trace: the rest can be filled in.
use Rattle.std.proofs.Common.{◌≡◌, ℕ, zero, suc, ◌+◌, ◌-◌, ◌<◌, ◌^◌, List, [], ◌∷◌, ◌++◌, length, map, refl, sym, ap, ◌∙◌, append_assoc, append-nil, length-append, arith}
use Rattle.std.specs.List.{AllByRecursion}
use Rattle.list_facts.proofs.Members.{all_append}
use Rattle.trace_line.specs.declared.line.Line.TheVariants as lines
use Rattle.trace_text.specs.declared.place.LinePlace.{LinePlace}
use Rattle.trace_text.specs.declared.place.LinePlace.TheVariants.{Title, Operations, Workers, Budget, Costs, Events, Nothing}
use Rattle.trace_text.specs.Traces.{Told, IsTrace, cost_lines, lines_of}
use Rattle.trace_text.specs.Fronts.{IsFront}
use Rattle.trace_text.specs.Places.{lines_before, IsReadTo}
use Rattle.trace_text.proofs.LineLists.{cost_lines-append}

-- so many costs of 0
zeros : ℕ → List ℕ
zeros zero = []
zeros (suc n) = 0 ∷ zeros n

length-zeros : (n : ℕ) → length (zeros n) ≡ n
unfolding zeros
length-zeros zero = refl
length-zeros (suc n) = omega (arith, length-zeros n)

small_zeros : (n : ℕ) → AllByRecursion (λ c. c < 2 ^ 64) (zeros n)
unfolding zeros
small_zeros zero = tt
small_zeros (suc n) = (omega arith, small_zeros n)

-- what is told where all that isn't read yet is 0
filled : ℕ → ℕ → ℕ → List ℕ → Told
filled n w b costs = record { operations = n; workers = w; budget = b; costs = costs ++ zeros (n - length costs); events = [] }

filled_is_trace : (n w b : ℕ) (costs : List ℕ) → n < 2 ^ 32 → w < 2 ^ 32 → b < 2 ^ 64 → length costs < n + 1 → AllByRecursion (λ c. c < 2 ^ 64) costs → IsTrace (filled n w b costs)
unfolding filled
filled_is_trace n w b costs p q r h s =
    record {
      operations = p;
      workers = q;
      budget = r;
      count = omega (arith, length-append costs (zeros (n - length costs)), length-zeros (n - length costs));
      costs = all_append (λ c. c < 2 ^ 64) costs (zeros (n - length costs)) s (small_zeros (n - length costs));
      events = tt;
    }

pub front_of_place : (place : LinePlace) (t : Told) → IsReadTo place t → IsFront (lines_before place t)
unfolding filled
front_of_place Title t r =
    record { of = filled 0 0 0 []; trace = filled_is_trace 0 0 0 [] (omega arith) (omega arith) (omega arith) (omega arith) tt; more = lines_of (filled 0 0 0 []); parts = refl }
front_of_place Operations t r =
    record {
      of = filled 0 0 0 [];
      trace = filled_is_trace 0 0 0 [] (omega arith) (omega arith) (omega arith) (omega arith) tt;
      more = lines.Operations 0 ∷ lines.Workers 0 ∷ lines.Budget 0 ∷ (cost_lines 0 (filled 0 0 0 []).costs ++ (lines.End ∷ []));
      parts = refl;
    }
front_of_place Workers t r =
    record {
      of = filled t.operations 0 0 [];
      trace = filled_is_trace t.operations 0 0 [] r.operations (omega arith) (omega arith) (omega arith) tt;
      more = lines.Workers 0 ∷ lines.Budget 0 ∷ (cost_lines 0 (filled t.operations 0 0 []).costs ++ (lines.End ∷ []));
      parts = refl;
    }
front_of_place Budget t r =
    record {
      of = filled t.operations t.workers 0 [];
      trace = filled_is_trace t.operations t.workers 0 [] r.operations r.workers (omega arith) (omega arith) tt;
      more = lines.Budget 0 ∷ (cost_lines 0 (filled t.operations t.workers 0 []).costs ++ (lines.End ∷ []));
      parts = refl;
    }
front_of_place Costs t r =
    record {
      of = filled t.operations t.workers t.budget t.costs;
      trace = filled_is_trace t.operations t.workers t.budget t.costs r.operations r.workers r.budget (omega (arith, r.counts.1)) r.costs;
      more = cost_lines (0 + length t.costs) (zeros (t.operations - length t.costs)) ++ (lines.End ∷ []);
      parts = ap (λ x. lines.Title ∷ lines.Operations t.operations ∷ lines.Workers t.workers ∷ lines.Budget t.budget ∷ x)
          (ap (λ x. x ++ (lines.End ∷ [])) (cost_lines-append 0 t.costs (zeros (t.operations - length t.costs)))
          ∙ append_assoc (cost_lines 0 t.costs) (cost_lines (0 + length t.costs) (zeros (t.operations - length t.costs))) (lines.End ∷ []));
    }
front_of_place Events t r =
    record {
      of = t;
      trace = record { operations = r.operations; workers = r.workers; budget = r.budget; count = r.counts; costs = r.costs; events = r.events };
      more = lines.End ∷ [];
      parts = ap (λ x. lines.Title ∷ lines.Operations t.operations ∷ lines.Workers t.workers ∷ lines.Budget t.budget ∷ x)
          (sym (append_assoc (cost_lines 0 t.costs) (map lines.Step t.events) (lines.End ∷ [])));
    }
front_of_place Nothing t r =
    record {
      of = t;
      trace = record { operations = r.operations; workers = r.workers; budget = r.budget; count = r.counts; costs = r.costs; events = r.events };
      more = [];
      parts = sym (append-nil (lines_of t));
    }
