-- Which lines of what was read offend, by the numbers of the header, the events and the end.
use Rattle.std.proofs.Common.{◌≡◌, ◌≢◌, ℕ, ◌+◌, ◌⊎◌, inl, inr, List, [], ◌∷◌, ◌++◌, length, map, refl, sym, ap, subst, ◌∙◌, append_assoc, append-nil, length-append, arith}
use Rattle.ledger_history.specs.declared.event.Event.{Event}
use Rattle.ledger_history.specs.Histories.{IsComplete}
use Rattle.ledger_record.specs.Records.{past_of}
use Rattle.trace_line.specs.declared.line.Line.{Line}
use Rattle.trace_line.specs.declared.line.Line.TheVariants as lines
use Rattle.trace_text.specs.declared.fault.TraceReason.{TraceReason}
use Rattle.trace_text.specs.declared.fault.TraceReason.TheVariants.{HeaderMismatch, Unfinished}
use Rattle.trace_text.specs.declared.place.LinePlace.{LinePlace}
use Rattle.trace_text.specs.declared.place.LinePlace.TheVariants.{Title, Operations, Workers, Budget, Costs, Events, Nothing}
use Rattle.trace_text.specs.Traces.{Told, cost_lines}
use Rattle.trace_text.specs.Places.{lines_before}
use Rattle.trace_text.specs.Refusals.{Terms, Differs, Offends}
use Rattle.trace_text.proofs.LineLists.{length-cost_lines}
use Rattle.trace_replay.specs.Replays.{run_of}
use Rattle.trace_replay.specs.Working.Headers.{AreOff}
use Rattle.trace_replay.proofs.Splits.{Later, no_place, peel, peel_costs, peel_steps}
use Rattle.trace_replay.proofs.Said.{lines_to, title_is_right, cost_is_right, operations_off, workers_off, budget_off, StepOffends, step_off, end_off}

-- ---- the three kinds

-- a number of the header is off
pub record HeaderOff (terms : Terms) (t : Told) (line : ℕ) (reason : TraceReason) : Type 0 where
  pub why : reason ≡ HeaderMismatch
  pub number : ((line ≡ 2) × (t.operations ≢ length terms.wires)) ⊎ (((line ≡ 3) × AreOff terms t.workers) ⊎ ((line ≡ 4) × Differs terms.budget t.budget))

-- an event is
pub record StepOff (terms : Terms) (t : Told) (line : ℕ) (reason : TraceReason) : Type 0 where
  pub before : List Event
  pub event : Event
  pub after : List Event
  pub parts : t.events ≡ before ++ event ∷ after
  pub at : line ≡ 5 + length t.costs + length before
  pub how : StepOffends terms t before event reason

-- the end is
pub record EndOff (terms : Terms) (place : LinePlace) (t : Told) (line : ℕ) (reason : TraceReason) : Type 0 where
  pub ended : place ≡ Nothing
  pub at : line ≡ 5 + length t.costs + length t.events
  pub why : reason ≡ Unfinished
  pub open_end : IsComplete (run_of terms t) (past_of t.events) → ⊥

abbrev pub Off : Terms → LinePlace → Told → ℕ → TraceReason → Type 0
Off terms place t line reason = HeaderOff terms t line reason ⊎ (StepOff terms t line reason ⊎ EndOff terms place t line reason)

-- ---- the parts of the lines

-- a line that offends, behind these lines
record Offending (terms : Terms) (before : List Line) (here : Line) (line : ℕ) (reason : TraceReason) : Type 0 where
  at : line ≡ length before + 1
  offends : Offends terms before here reason

moved : (terms : Terms) (before first more : List Line) (here : Line) (line : ℕ) (reason : TraceReason) → before ≡ first ++ more → Offending terms before here line reason → Offending terms (first ++ more) here line reason
moved terms before first more here line reason e o = subst (λ b. Offending terms b here line reason) e o

settled : (terms : Terms) (before : List Line) (here x : Line) (line : ℕ) (reason : TraceReason) → here ≡ x → Offending terms before here line reason → Offending terms before x line reason
settled terms before here x line reason e o = subst (λ h. Offending terms before h line reason) e o

-- behind the title
past_title : (terms : Terms) (xs before : List Line) (here : Line) (after : List Line) (line : ℕ) (reason : TraceReason) → lines.Title ∷ xs ≡ before ++ here ∷ after → Offending terms before here line reason
    → Later (lines.Title ∷ []) xs before here after
past_title terms xs before here after line reason e o = elim (peel lines.Title xs before here after e) [
  | inl h ↦ absurd (title_is_right terms before reason (settled terms before here lines.Title line reason h.same o).offends)
  | inr l ↦ l
]

-- a line of the header, or one behind it
abbrev HeaderOr : Terms → Told → List Line → List Line → List Line → Line → List Line → ℕ → TraceReason → Type 0
HeaderOr terms t first rest before here after line reason = HeaderOff terms t line reason ⊎ Later first rest before here after

past_operations : (terms : Terms) (t : Told) (xs before : List Line) (here : Line) (after : List Line) (line : ℕ) (reason : TraceReason)
    → lines.Title ∷ lines.Operations t.operations ∷ xs ≡ before ++ here ∷ after → Offending terms before here line reason
    → HeaderOr terms t (lines.Title ∷ lines.Operations t.operations ∷ []) xs before here after line reason
past_operations terms t xs before here after line reason e o =
    let p = past_title terms (lines.Operations t.operations ∷ xs) before here after line reason e o in
    elim (peel (lines.Operations t.operations) xs p.more here after p.parts) [
      | inl h ↦
          let f = operations_off terms before t.operations reason (settled terms before here (lines.Operations t.operations) line reason h.same o).offends in
          inl (record { why = f.0; number = inl (omega (arith, o.at, ap (λ (x : List Line). length x) p.is, ap (λ (x : List Line). length x) h.none), f.1) })
      | inr l ↦ inr (record { more = l.more; is = p.is ∙ ap (λ x. lines.Title ∷ x) l.is; parts = l.parts })
    ]

past_workers : (terms : Terms) (t : Told) (xs before : List Line) (here : Line) (after : List Line) (line : ℕ) (reason : TraceReason)
    → lines.Title ∷ lines.Operations t.operations ∷ lines.Workers t.workers ∷ xs ≡ before ++ here ∷ after → Offending terms before here line reason
    → HeaderOr terms t (lines.Title ∷ lines.Operations t.operations ∷ lines.Workers t.workers ∷ []) xs before here after line reason
past_workers terms t xs before here after line reason e o = elim (past_operations terms t (lines.Workers t.workers ∷ xs) before here after line reason e o) [
  | inl h ↦ inl h
  | inr p ↦ elim (peel (lines.Workers t.workers) xs p.more here after p.parts) [
    | inl h ↦
        let f = workers_off terms before t.workers reason (settled terms before here (lines.Workers t.workers) line reason h.same o).offends in
        inl (record { why = f.0; number = inr (inl (omega (arith, o.at, ap (λ (x : List Line). length x) p.is, ap (λ (x : List Line). length x) h.none), f.1)) })
    | inr l ↦ inr (record { more = l.more; is = p.is ∙ ap (λ x. lines.Title ∷ lines.Operations t.operations ∷ x) l.is; parts = l.parts })
  ]
]

past_budget : (terms : Terms) (t : Told) (xs before : List Line) (here : Line) (after : List Line) (line : ℕ) (reason : TraceReason)
    → lines.Title ∷ lines.Operations t.operations ∷ lines.Workers t.workers ∷ lines.Budget t.budget ∷ xs ≡ before ++ here ∷ after → Offending terms before here line reason
    → HeaderOr terms t (lines.Title ∷ lines.Operations t.operations ∷ lines.Workers t.workers ∷ lines.Budget t.budget ∷ []) xs before here after line reason
past_budget terms t xs before here after line reason e o = elim (past_workers terms t (lines.Budget t.budget ∷ xs) before here after line reason e o) [
  | inl h ↦ inl h
  | inr p ↦ elim (peel (lines.Budget t.budget) xs p.more here after p.parts) [
    | inl h ↦
        let f = budget_off terms before t.budget reason (settled terms before here (lines.Budget t.budget) line reason h.same o).offends in
        inl (record { why = f.0; number = inr (inr (omega (arith, o.at, ap (λ (x : List Line). length x) p.is, ap (λ (x : List Line). length x) h.none), f.1)) })
    | inr l ↦ inr (record { more = l.more; is = p.is ∙ ap (λ x. lines.Title ∷ lines.Operations t.operations ∷ lines.Workers t.workers ∷ x) l.is; parts = l.parts })
  ]
]

abbrev header_of : Told → List Line → List Line
header_of t xs = lines.Title ∷ lines.Operations t.operations ∷ lines.Workers t.workers ∷ lines.Budget t.budget ∷ xs

past_costs : (terms : Terms) (t : Told) (tail before : List Line) (here : Line) (after : List Line) (line : ℕ) (reason : TraceReason)
    → header_of t (cost_lines 0 t.costs ++ tail) ≡ before ++ here ∷ after → Offending terms before here line reason
    → HeaderOr terms t (header_of t (cost_lines 0 t.costs)) tail before here after line reason
past_costs terms t tail before here after line reason e o = elim (past_budget terms t (cost_lines 0 t.costs ++ tail) before here after line reason e o) [
  | inl h ↦ inl h
  | inr p ↦ elim (peel_costs 0 t.costs tail p.more here after p.parts) [
    | inl c ↦ absurd (cost_is_right terms before c.op c.cost reason (settled terms before here (lines.Cost c.op c.cost) line reason c.same o).offends)
    | inr l ↦ inr (record { more = l.more; is = p.is ∙ ap (header_of t) l.is; parts = l.parts })
  ]
]

pub length-lines_to : (t : Told) (es : List Event) → length (lines_to t es) ≡ 4 + length t.costs + length es
length-lines_to t es = omega (arith, length-append (cost_lines 0 t.costs) (map lines.Step es), length-cost_lines 0 t.costs, steps es)
  where
    steps : (es : List Event) → length (map lines.Step es) ≡ length es
    steps [] = refl
    steps (e ∷ es) = omega (arith, steps es)

past_steps : (terms : Terms) (t : Told) (tail before : List Line) (here : Line) (after : List Line) (line : ℕ) (reason : TraceReason)
    → header_of t (cost_lines 0 t.costs ++ (map lines.Step t.events ++ tail)) ≡ before ++ here ∷ after → Offending terms before here line reason
    → HeaderOff terms t line reason ⊎ (StepOff terms t line reason ⊎ Later (lines_to t t.events) tail before here after)
past_steps terms t tail before here after line reason e o = elim (past_costs terms t (map lines.Step t.events ++ tail) before here after line reason e o) [
  | inl h ↦ inl h
  | inr p ↦ elim (peel_steps t.events tail p.more here after p.parts) [
    | inl s ↦
        let is : before ≡ lines_to t s.earlier = p.is ∙ ap (λ x. header_of t (cost_lines 0 t.costs ++ x)) s.is in
        let w : Offending terms (lines_to t s.earlier) (lines.Step s.event) line reason = settled terms (lines_to t s.earlier) here (lines.Step s.event) line reason s.same (subst (λ b. Offending terms b here line reason) is o) in
        inr (inl (record {
          before = s.earlier;
          event = s.event;
          after = s.later;
          parts = s.parts;
          at = omega (arith, w.at, length-lines_to t s.earlier);
          how = step_off terms t s.earlier s.event reason w.offends;
        }))
    | inr l ↦ inr (inr (record { more = l.more; is = p.is ∙ ap (λ x. header_of t (cost_lines 0 t.costs ++ x)) l.is ∙ ap (header_of t) (sym (append_assoc (cost_lines 0 t.costs) (map lines.Step t.events) l.more)); parts = l.parts }))
  ]
]

at_end : (terms : Terms) (t : Told) (before : List Line) (here : Line) (after : List Line) (line : ℕ) (reason : TraceReason)
    → Later (lines_to t t.events) (lines.End ∷ []) before here after → Offending terms before here line reason → EndOff terms Nothing t line reason
at_end terms t before here after line reason p o = elim (peel lines.End [] p.more here after p.parts) [
  | inl h ↦
      let is : before ≡ lines_to t t.events = p.is ∙ ap (λ x. lines_to t t.events ++ x) h.none ∙ append-nil (lines_to t t.events) in
      let w : Offending terms (lines_to t t.events) lines.End line reason = settled terms (lines_to t t.events) here lines.End line reason h.same (subst (λ b. Offending terms b here line reason) is o) in
      let f = end_off terms t t.events reason w.offends in
      record { ended = refl; at = omega (arith, w.at, length-lines_to t t.events); why = f.0; open_end = f.1 }
  | inr l ↦ absurd (no_place l.more here after l.parts)
]

-- ---- what offends in what was read

offence : (place : LinePlace) (terms : Terms) (t : Told) (before : List Line) (here : Line) (after : List Line) (line : ℕ) (reason : TraceReason)
    → lines_before place t ≡ before ++ here ∷ after → Offending terms before here line reason → Off terms place t line reason
offence Title terms t before here after line reason e o = absurd (no_place before here after e)
offence Operations terms t before here after line reason e o =
    let p = past_title terms [] before here after line reason e o in
    absurd (no_place p.more here after p.parts)
offence Workers terms t before here after line reason e o = elim (past_operations terms t [] before here after line reason e o) [
  | inl h ↦ inl h
  | inr p ↦ absurd (no_place p.more here after p.parts)
]
offence Budget terms t before here after line reason e o = elim (past_workers terms t [] before here after line reason e o) [
  | inl h ↦ inl h
  | inr p ↦ absurd (no_place p.more here after p.parts)
]
offence Costs terms t before here after line reason e o = elim (past_costs terms t [] before here after line reason (ap (header_of t) (append-nil (cost_lines 0 t.costs)) ∙ e) o) [
  | inl h ↦ inl h
  | inr p ↦ absurd (no_place p.more here after p.parts)
]
offence Events terms t before here after line reason e o =
    elim (past_steps terms t [] before here after line reason (ap (λ x. header_of t (cost_lines 0 t.costs ++ x)) (append-nil (map lines.Step t.events)) ∙ e) o) [
      | inl h ↦ inl h
      | inr q ↦ elim q [
        | inl s ↦ inr (inl s)
        | inr p ↦ absurd (no_place p.more here after p.parts)
      ]
    ]
offence Nothing terms t before here after line reason e o = elim (past_steps terms t (lines.End ∷ []) before here after line reason e o) [
  | inl h ↦ inl h
  | inr q ↦ elim q [
    | inl s ↦ inr (inl s)
    | inr p ↦ inr (inr (at_end terms t before here after line reason p o))
  ]
]

pub what_offends : (place : LinePlace) (terms : Terms) (t : Told) (before : List Line) (here : Line) (after : List Line) (line : ℕ) (reason : TraceReason)
    → lines_before place t ≡ before ++ here ∷ after → line ≡ length before + 1 → Offends terms before here reason → Off terms place t line reason
what_offends place terms t before here after line reason e n o = offence place terms t before here after line reason e (record { at = n; offends = o })
