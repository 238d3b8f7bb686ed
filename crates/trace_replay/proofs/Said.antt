-- What lines say: the setup and the past that they give, and when one of them offends.
use Rattle.std.proofs.Common.{◌≡◌, ◌≢◌, ℕ, ◌+◌, ◌⊎◌, inl, inr, List, [], ◌∷◌, ◌++◌, length, map, slice_index, refl, sym, ap, subst}
use Rattle.ledger_history.specs.declared.event.Event.{Event}
use Rattle.ledger_history.specs.Histories.{Setup, IsComplete}
use Rattle.ledger_history.specs.Enabled.{Enabled}
use Rattle.ledger_record.specs.Records.{past_of}
use Rattle.trace_line.specs.declared.line.Line.{Line}
use Rattle.trace_line.specs.declared.line.Line.TheVariants as lines
use Rattle.trace_text.specs.declared.fault.TraceReason.{TraceReason}
use Rattle.trace_text.specs.declared.fault.TraceReason.TheVariants.{TooLong, Syntax, HeaderMismatch, WrongCharge, NotEnabled, Unfinished}
use Rattle.trace_text.specs.Traces.{Told, cost_lines}
use Rattle.trace_text.specs.Refusals.{Terms, Differs, IsWrongCharge, Offends, costs_in, events_in, setup_in, past_in}
use Rattle.trace_replay.specs.Replays.{run_of}
use Rattle.trace_replay.specs.Working.Headers.{AreOff}

-- the lines up to behind these events
abbrev pub lines_to : Told → List Event → List Line
lines_to t es = lines.Title ∷ lines.Operations t.operations ∷ lines.Workers t.workers ∷ lines.Budget t.budget ∷ (cost_lines 0 t.costs ++ map lines.Step es)

no_costs_in_steps : (es : List Event) → costs_in (map lines.Step es) ≡ []
no_costs_in_steps [] = refl
no_costs_in_steps (e ∷ es) = no_costs_in_steps es

said_costs : (i : ℕ) (cs : List ℕ) (es : List Event) → costs_in (cost_lines i cs ++ map lines.Step es) ≡ cs
said_costs i [] es = no_costs_in_steps es
said_costs i (c ∷ cs) es = ap (λ x. c ∷ x) (said_costs (i + 1) cs es)

events_in_steps : (es : List Event) → events_in (map lines.Step es) ≡ es
events_in_steps [] = refl
events_in_steps (e ∷ es) = ap (λ x. e ∷ x) (events_in_steps es)

said_events : (i : ℕ) (cs : List ℕ) (es : List Event) → events_in (cost_lines i cs ++ map lines.Step es) ≡ es
said_events i [] es = events_in_steps es
said_events i (c ∷ cs) es = said_events (i + 1) cs es

pub costs_said : (t : Told) (es : List Event) → costs_in (lines_to t es) ≡ t.costs
costs_said t es = said_costs 0 t.costs es

pub past_said : (t : Told) (es : List Event) → past_in (lines_to t es) ≡ past_of es
past_said t es = ap past_of (said_events 0 t.costs es)

pub setup_said : (terms : Terms) (t : Told) (es : List Event) → setup_in terms (lines_to t es) ≡ run_of terms t
setup_said terms t es =
    ap (λ (cs : List ℕ). let s : Setup = record { wires = terms.wires; cost = λ i. slice_index cs i; budget = t.budget; workers = t.workers } in s) (costs_said t es)

-- what holds of the setup and the past that lines give, holds of the run's own
pub of_run : (P : Setup → List Event → Type 0) (terms : Terms) (t : Told) (es : List Event) → P (setup_in terms (lines_to t es)) (past_in (lines_to t es)) → P (run_of terms t) (past_of es)
of_run P terms t es h = subst (λ s. P s (past_of es)) (setup_said terms t es) (subst (λ p. P (setup_in terms (lines_to t es)) p) (past_said t es) h)

pub of_lines : (P : Setup → List Event → Type 0) (terms : Terms) (t : Told) (es : List Event) → P (run_of terms t) (past_of es) → P (setup_in terms (lines_to t es)) (past_in (lines_to t es))
of_lines P terms t es h = subst (λ p. P (setup_in terms (lines_to t es)) p) (sym (past_said t es)) (subst (λ s. P s (past_of es)) (sym (setup_said terms t es)) h)

-- ---- when a line offends

pub title_is_right : (terms : Terms) (before : List Line) (reason : TraceReason) → Offends terms before lines.Title reason → ⊥
title_is_right terms before TooLong h = h
title_is_right terms before Syntax h = h
title_is_right terms before HeaderMismatch h = h
title_is_right terms before WrongCharge h = h
title_is_right terms before NotEnabled h = h
title_is_right terms before Unfinished h = h

pub cost_is_right : (terms : Terms) (before : List Line) (i c : ℕ) (reason : TraceReason) → Offends terms before (lines.Cost i c) reason → ⊥
cost_is_right terms before i c TooLong h = h
cost_is_right terms before i c Syntax h = h
cost_is_right terms before i c HeaderMismatch h = h
cost_is_right terms before i c WrongCharge h = h
cost_is_right terms before i c NotEnabled h = h
cost_is_right terms before i c Unfinished h = h

pub operations_off : (terms : Terms) (before : List Line) (n : ℕ) (reason : TraceReason) → Offends terms before (lines.Operations n) reason → (reason ≡ HeaderMismatch) × (n ≢ length terms.wires)
operations_off terms before n TooLong h = absurd h
operations_off terms before n Syntax h = absurd h
operations_off terms before n HeaderMismatch h = (refl, h)
operations_off terms before n WrongCharge h = absurd h
operations_off terms before n NotEnabled h = absurd h
operations_off terms before n Unfinished h = absurd h

pub workers_off : (terms : Terms) (before : List Line) (n : ℕ) (reason : TraceReason) → Offends terms before (lines.Workers n) reason → (reason ≡ HeaderMismatch) × AreOff terms n
workers_off terms before n TooLong h = absurd h
workers_off terms before n Syntax h = absurd h
workers_off terms before n HeaderMismatch h = (refl, h)
workers_off terms before n WrongCharge h = absurd h
workers_off terms before n NotEnabled h = absurd h
workers_off terms before n Unfinished h = absurd h

pub budget_off : (terms : Terms) (before : List Line) (n : ℕ) (reason : TraceReason) → Offends terms before (lines.Budget n) reason → (reason ≡ HeaderMismatch) × Differs terms.budget n
budget_off terms before n TooLong h = absurd h
budget_off terms before n Syntax h = absurd h
budget_off terms before n HeaderMismatch h = (refl, h)
budget_off terms before n WrongCharge h = absurd h
budget_off terms before n NotEnabled h = absurd h
budget_off terms before n Unfinished h = absurd h

-- an event offends the run's own setup and past
abbrev pub StepOffends : Terms → Told → List Event → Event → TraceReason → Type 0
StepOffends terms t es e reason =
    ((reason ≡ WrongCharge) × IsWrongCharge t.costs e) ⊎ ((reason ≡ NotEnabled) × (Enabled (run_of terms t) (past_of es) e → ⊥))

pub step_off : (terms : Terms) (t : Told) (es : List Event) (e : Event) (reason : TraceReason) → Offends terms (lines_to t es) (lines.Step e) reason → StepOffends terms t es e reason
step_off terms t es e TooLong h = absurd h
step_off terms t es e Syntax h = absurd h
step_off terms t es e HeaderMismatch h = absurd h
step_off terms t es e WrongCharge h = inl (refl, subst (λ cs. IsWrongCharge cs e) (costs_said t es) h)
step_off terms t es e NotEnabled h = inr (refl, of_run (λ s p. Enabled s p e → ⊥) terms t es h)
step_off terms t es e Unfinished h = absurd h

pub end_off : (terms : Terms) (t : Told) (es : List Event) (reason : TraceReason) → Offends terms (lines_to t es) lines.End reason → (reason ≡ Unfinished) × (IsComplete (run_of terms t) (past_of es) → ⊥)
end_off terms t es TooLong h = absurd h
end_off terms t es Syntax h = absurd h
end_off terms t es HeaderMismatch h = absurd h
end_off terms t es WrongCharge h = absurd h
end_off terms t es NotEnabled h = absurd h
end_off terms t es Unfinished h = (refl, of_run (λ s p. IsComplete s p → ⊥) terms t es h)
