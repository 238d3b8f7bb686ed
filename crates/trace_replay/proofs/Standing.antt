-- Where the lines that may offend stand in what was read, and which events of a legal history were allowed.
use Rattle.std.proofs.Common.{◌≡◌, ◌<◌, ◌≤◌, ◌⊎◌, inl, inr, List, [], ◌∷◌, ◌++◌, length, map, reverse, refl, sym, ap, subst, ◌∙◌, append_assoc, length-append, arith}
use Rattle.std.proofs.lemmas.List.{reverse-append}
use Rattle.ledger_history.specs.declared.event.Event.{Event}
use Rattle.ledger_history.specs.Histories.{Setup}
use Rattle.ledger_history.specs.Enabled.{Enabled, Legal}
use Rattle.ledger_record.specs.Records.{past_of}
use Rattle.trace_line.specs.declared.line.Line.{Line}
use Rattle.trace_line.specs.declared.line.Line.TheVariants as lines
use Rattle.trace_text.specs.declared.place.LinePlace.{LinePlace}
use Rattle.trace_text.specs.declared.place.LinePlace.TheVariants.{Title, Operations, Workers, Budget, Costs, Events, Nothing}
use Rattle.trace_text.specs.Traces.{Told, cost_lines}
use Rattle.trace_text.specs.Places.{lines_before, IsReadTo}
use Rattle.trace_text.proofs.LineLists.{map_step-append}
use Rattle.trace_replay.proofs.Said.{lines_to}

-- these lines, this one, and more
pub record Standing (ls before : List Line) (here : Line) : Type 0 where
  pub after : List Line
  pub parts : ls ≡ before ++ here ∷ after

-- ---- the header

pub operations_stand : (place : LinePlace) (t : Told) → 2 ≤ length (lines_before place t) → Standing (lines_before place t) (lines.Title ∷ []) (lines.Operations t.operations)
operations_stand Title t h = absurd (omega arith)
operations_stand Operations t h = absurd (omega arith)
operations_stand Workers t h = record { after = []; parts = refl }
operations_stand Budget t h = record { after = lines.Workers t.workers ∷ []; parts = refl }
operations_stand Costs t h = record { after = lines.Workers t.workers ∷ lines.Budget t.budget ∷ cost_lines 0 t.costs; parts = refl }
operations_stand Events t h = record { after = lines.Workers t.workers ∷ lines.Budget t.budget ∷ (cost_lines 0 t.costs ++ map lines.Step t.events); parts = refl }
operations_stand Nothing t h = record { after = lines.Workers t.workers ∷ lines.Budget t.budget ∷ (cost_lines 0 t.costs ++ (map lines.Step t.events ++ (lines.End ∷ []))); parts = refl }

pub workers_stand : (place : LinePlace) (t : Told) → 3 ≤ length (lines_before place t) → Standing (lines_before place t) (lines.Title ∷ lines.Operations t.operations ∷ []) (lines.Workers t.workers)
workers_stand Title t h = absurd (omega arith)
workers_stand Operations t h = absurd (omega arith)
workers_stand Workers t h = absurd (omega arith)
workers_stand Budget t h = record { after = []; parts = refl }
workers_stand Costs t h = record { after = lines.Budget t.budget ∷ cost_lines 0 t.costs; parts = refl }
workers_stand Events t h = record { after = lines.Budget t.budget ∷ (cost_lines 0 t.costs ++ map lines.Step t.events); parts = refl }
workers_stand Nothing t h = record { after = lines.Budget t.budget ∷ (cost_lines 0 t.costs ++ (map lines.Step t.events ++ (lines.End ∷ []))); parts = refl }

pub budget_stands : (place : LinePlace) (t : Told) → 4 ≤ length (lines_before place t) → Standing (lines_before place t) (lines.Title ∷ lines.Operations t.operations ∷ lines.Workers t.workers ∷ []) (lines.Budget t.budget)
budget_stands Title t h = absurd (omega arith)
budget_stands Operations t h = absurd (omega arith)
budget_stands Workers t h = absurd (omega arith)
budget_stands Budget t h = absurd (omega arith)
budget_stands Costs t h = record { after = cost_lines 0 t.costs; parts = refl }
budget_stands Events t h = record { after = cost_lines 0 t.costs ++ map lines.Step t.events; parts = refl }
budget_stands Nothing t h = record { after = cost_lines 0 t.costs ++ (map lines.Step t.events ++ (lines.End ∷ [])); parts = refl }

-- ---- events, and the end

no_event : (before : List Event) (e : Event) (after events : List Event) → events ≡ [] → events ≡ before ++ e ∷ after → ⊥
no_event before e after events n p =
    let l : length {A = Event} [] ≡ length (before ++ e ∷ after) = ap (λ (x : List Event). length x) (sym n ∙ p) in
    omega (arith, l, length-append before (e ∷ after))

abbrev header_of : Told → List Line → List Line
header_of t xs = lines.Title ∷ lines.Operations t.operations ∷ lines.Workers t.workers ∷ lines.Budget t.budget ∷ xs

steps_parted : (before : List Event) (e : Event) (after events : List Event) → events ≡ before ++ e ∷ after → map lines.Step events ≡ map lines.Step before ++ lines.Step e ∷ map lines.Step after
steps_parted before e after events p = ap (map lines.Step) p ∙ map_step-append before (e ∷ after)

regrouped : (t : Told) (cs bs tail xs : List Line) (x : Line) → header_of t (cs ++ ((bs ++ x ∷ xs) ++ tail)) ≡ header_of t (cs ++ bs) ++ x ∷ (xs ++ tail)
regrouped t cs bs tail xs x =
    ap (header_of t) (ap (λ z. cs ++ z) (append_assoc bs (x ∷ xs) tail) ∙ sym (append_assoc cs bs (x ∷ (xs ++ tail))))

pub step_stands : (place : LinePlace) (t : Told) (before : List Event) (e : Event) (after : List Event) → IsReadTo place t → t.events ≡ before ++ e ∷ after → Standing (lines_before place t) (lines_to t before) (lines.Step e)
step_stands Title t before e after r p = absurd (no_event before e after t.events r.counts.1 p)
step_stands Operations t before e after r p = absurd (no_event before e after t.events r.counts.1 p)
step_stands Workers t before e after r p = absurd (no_event before e after t.events r.counts.1 p)
step_stands Budget t before e after r p = absurd (no_event before e after t.events r.counts.1 p)
step_stands Costs t before e after r p = absurd (no_event before e after t.events r.counts.0 p)
step_stands Events t before e after r p =
    record {
      after = map lines.Step after;
      parts = ap (λ x. header_of t (cost_lines 0 t.costs ++ x)) (steps_parted before e after t.events p)
          ∙ ap (header_of t) (sym (append_assoc (cost_lines 0 t.costs) (map lines.Step before) (lines.Step e ∷ map lines.Step after)));
    }
step_stands Nothing t before e after r p =
    record {
      after = map lines.Step after ++ (lines.End ∷ []);
      parts = ap (λ x. header_of t (cost_lines 0 t.costs ++ (x ++ (lines.End ∷ [])))) (steps_parted before e after t.events p)
          ∙ regrouped t (cost_lines 0 t.costs) (map lines.Step before) (lines.End ∷ []) (map lines.Step after) (lines.Step e);
    }

pub whole_parted : (t : Told) → lines_before Nothing t ≡ lines_to t t.events ++ (lines.End ∷ [])
whole_parted t = ap (header_of t) (sym (append_assoc (cost_lines 0 t.costs) (map lines.Step t.events) (lines.End ∷ [])))

pub end_stands : (t : Told) → Standing (lines_before Nothing t) (lines_to t t.events) lines.End
end_stands t = record { after = []; parts = whole_parted t }

-- ---- legal histories

legal_back : (s : Setup) (g h : List Event) → Legal s (g ++ h) → Legal s h
legal_back s [] h l = l
legal_back s (e ∷ g) h l = legal_back s g h l.1

-- each event of a legal history was enabled after those before it
pub was_enabled : (s : Setup) (before : List Event) (e : Event) (after : List Event) → Legal s (past_of (before ++ e ∷ after)) → Enabled s (past_of before) e
was_enabled s before e after l =
    let grouped : past_of (before ++ e ∷ after) ≡ reverse after ++ (e ∷ past_of before) =
    reverse-append before (e ∷ after) ∙ ap (λ x. x ++ reverse before) (reverse-append (e ∷ []) after) ∙ append_assoc (reverse after) (e ∷ []) (reverse before) in
    (legal_back s (reverse after) (e ∷ past_of before) (subst (Legal s) grouped l)).0

-- ---- two places in one list of events

pub record Earlier (first second : List Event) (e : Event) : Type 0 where
  pub between : List Event
  pub parts : first ≡ second ++ e ∷ between

pub compare_places : (b : List Event) (e : Event) (a c : List Event) (f : Event) (d : List Event) → b ++ e ∷ a ≡ c ++ f ∷ d
    → Earlier b c f ⊎ (((b ≡ c) × (e ≡ f)) ⊎ (length b < length c))
compare_places [] e a [] f d p = let h : e ≡ f = cc in inr (inl (refl, h))
compare_places [] e a (y ∷ c) f d p = inr (inr (omega arith))
compare_places (x ∷ b) e a [] f d p = let h : x ≡ f = cc in inl (record { between = b; parts = ap (λ z. z ∷ b) h })
compare_places (x ∷ b) e a (y ∷ c) f d p =
    let h : x ≡ y = cc in
    let t : b ++ e ∷ a ≡ c ++ f ∷ d = cc in
    elim (compare_places b e a c f d t) [
      | inl r ↦ inl (record { between = r.between; parts = ap (λ z. x ∷ z) r.parts ∙ ap (λ z. z ∷ (c ++ f ∷ r.between)) h })
      | inr q ↦ elim q [
        | inl r ↦ inr (inl (ap (λ z. x ∷ z) r.0 ∙ ap (λ z. z ∷ c) h, r.1))
        | inr r ↦ inr (inr (omega (arith, r)))
      ]
    ]
