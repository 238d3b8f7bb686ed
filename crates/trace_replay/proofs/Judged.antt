-- What a replay answers, from what its parts answer.
use Rattle.std.proofs.Common.{◌≡◌, ℕ, ◌+◌, ◌≤◌, ◌↔◌, IsTrue, inl, inr, Bool, false, Option, Result, Ok, Err, IfOk, IfErr, List, [], ◌∷◌, ◌++◌, length, refl, sym, ap, subst, ◌∙◌, length-append, arith}
use Rattle.std.proofs.lemmas.Bool.{cases_lt}
use mathlib.Core.Bool.{true≢false}
use Rattle.layer_model.specs.declared.wiring.Wire.{Wire}
use Rattle.ledger_history.specs.declared.event.Event.{Event}
use Rattle.ledger_history.specs.Histories.{Setup, IsComplete, setup_of_lists}
use Rattle.ledger_history.specs.Enabled.{Legal}
use Rattle.ledger_record.specs.Records.{past_of}
use Rattle.ledger_table.specs.Ledgers.{Ledger, setup_of}
use Rattle.trace_line.specs.declared.line.Line.{Line}
use Rattle.trace_line.specs.declared.line.Line.TheVariants as lines
use Rattle.trace_text.specs.declared.fault.TraceReason.{TraceReason}
use Rattle.trace_text.specs.declared.fault.TraceReason.TheVariants.{TooLong, Syntax, HeaderMismatch, WrongCharge, NotEnabled, Unfinished}
use Rattle.trace_text.specs.declared.fault.TraceFault.{TraceFault}
use Rattle.trace_text.specs.declared.fault.TraceFault.TheVariants.{Refused, Memory}
use Rattle.trace_text.specs.declared.front.Front.{Front}
use Rattle.trace_text.specs.declared.place.LinePlace.TheVariants.{Nothing}
use Rattle.trace_text.specs.Traces.{Told, told, longest_trace}
use Rattle.trace_text.specs.FrontOf.{IsFrontOf}
use Rattle.trace_text.specs.Places.{lines_before}
use Rattle.trace_text.specs.Refusals.{Terms, IsFirstFault, IsSyntaxFault}
use Rattle.trace_text.proofs.FrontLaws.{fault_here, whole_here}
use Rattle.trace_replay.specs.declared.summary.Summary.{Summary}
use Rattle.trace_replay.specs.Replays.{asking, run_of, peak, HeaderMeets, Replays}
use Rattle.trace_replay.specs.Refused.{FailsToReplay}
use Rattle.trace_replay.specs.Working.Headers.{AreOff, HeaderFits, IsOffAt}
use Rattle.trace_replay.specs.Working.Reruns.{setup_at, StopsAt, ledger_after}
use Rattle.trace_replay.specs.Working.Endings.{EndsBadly, Concludes}
use Rattle.trace_replay.proofs.Said.{lines_to}
use Rattle.trace_replay.proofs.Standing.{step_stands}
use Rattle.trace_replay.proofs.Offences.{length-lines_to}
use Rattle.trace_replay.proofs.Faults.{IsReadText}
use Rattle.trace_replay.proofs.Firsts.{first_mismatch, first_barred, first_unfinished, first_syntax, length_whole}

pub read_text : (text : List ℕ) (f : Front) → IsFrontOf text f → length text ≤ longest_trace → IsReadText text f.place (told f.trace) f.rest.now
read_text text f r short = record { read = r.read; reached = r.reached; ends = r.ends; short = short }

-- the numbers at hand are those of the front
fits_at : (terms : Terms) (text : List ℕ) (f : Front) → IsFrontOf text f → HeaderFits terms f.lines (told f.trace) → HeaderFits terms (length (lines_before f.place (told f.trace))) (told f.trace)
fits_at terms text f r h = subst (λ n. HeaderFits terms n (told f.trace)) r.count h

-- ---- the header

pub mismatched : (ws xs : List Wire) (workers budget : Option ℕ) (text : List ℕ) (f : Front) (line : ℕ) (e : TraceFault) → IsFrontOf text f → length text ≤ longest_trace → xs ≡ ws
    → IsOffAt (asking xs workers budget) f.lines (told f.trace) line → e ≡ Refused (record { line = line; reason = HeaderMismatch }) → FailsToReplay (asking ws workers budget) text e
mismatched ws xs workers budget text f line e r short s o p =
    let off : IsOffAt (asking ws workers budget) f.lines (told f.trace) line = subst (λ x. IsOffAt (asking x workers budget) f.lines (told f.trace) line) s o in
    subst (FailsToReplay (asking ws workers budget) text) (sym p)
    (first_mismatch (asking ws workers budget) text f.place (told f.trace) f.rest.now line (read_text text f r short) (subst (λ n. IsOffAt (asking ws workers budget) n (told f.trace) line) r.count off))

-- ---- the events

-- the table from which the events are made
abbrev pub IsFresh : List Wire → Told → Ledger → Type 0
IsFresh ws t table = table ≡ record { wires = ws; budget = t.budget; workers = t.workers; events = [] }

same_setup : (ws : List Wire) (workers budget : Option ℕ) (t : Told) (table : Ledger) (cs : List ℕ) → IsFresh ws t table → cs ≡ t.costs → setup_at cs table ≡ run_of (asking ws workers budget) t
same_setup ws workers budget t table cs h c = ap (λ x. setup_at cs x) h ∙ ap (λ x. setup_of_lists ws x t.budget t.workers) c

pub same_stop : (ws : List Wire) (workers budget : Option ℕ) (t : Told) (table : Ledger) (cs : List ℕ) (es : List Event) (index : ℕ) (reason : TraceReason)
    → IsFresh ws t table → cs ≡ t.costs → es ≡ t.events → StopsAt (setup_at cs table) cs es index reason → StopsAt (run_of (asking ws workers budget) t) t.costs t.events index reason
same_stop ws workers budget t table cs es index reason h c d s =
    let a : StopsAt (run_of (asking ws workers budget) t) cs es index reason = subst (λ x. StopsAt x cs es index reason) (same_setup ws workers budget t table cs h c) s in
    let b : StopsAt (run_of (asking ws workers budget) t) t.costs es index reason = subst (λ x. StopsAt (run_of (asking ws workers budget) t) x es index reason) c a in
    subst (λ x. StopsAt (run_of (asking ws workers budget) t) t.costs x index reason) d b

-- there is a line for the event
pub stop_line : (s : Setup) (costs : List ℕ) (text : List ℕ) (f : Front) (index n : ℕ) (reason : TraceReason) → IsFrontOf text f → f.lines ≤ length text → length text ≤ longest_trace
    → n ≡ length f.trace.costs.items → StopsAt s costs f.trace.history.events.items index reason → n + index ≤ 4194304
stop_line s costs text f index n reason r few short m p =
    let stands = step_stands f.place (told f.trace) p.before p.event p.after r.read p.parts in
    let long : length (lines_before f.place (told f.trace)) ≡ length (lines_to (told f.trace) p.before ++ lines.Step p.event ∷ stands.after) = ap (λ (x : List Line). length x) stands.parts in
    omega (arith, few, short, m, p.at, r.count, long, length-append (lines_to (told f.trace) p.before) (lines.Step p.event ∷ stands.after), length-lines_to (told f.trace) p.before)

pub barred : (ws xs : List Wire) (workers budget : Option ℕ) (text : List ℕ) (f : Front) (index line n : ℕ) (reason : TraceReason) (e : TraceFault) → IsFrontOf text f → length text ≤ longest_trace → xs ≡ ws
    → HeaderFits (asking xs workers budget) f.lines (told f.trace) → StopsAt (run_of (asking ws workers budget) (told f.trace)) f.trace.costs.items f.trace.history.events.items index reason
    → n ≡ length f.trace.costs.items → line ≡ 5 + n + index → e ≡ Refused (record { line = line; reason = reason }) → FailsToReplay (asking ws workers budget) text e
barred ws xs workers budget text f index line n reason e r short s h p m l q =
    let terms : Terms = asking ws workers budget in
    let fits : HeaderFits terms f.lines (told f.trace) = subst (λ x. HeaderFits (asking x workers budget) f.lines (told f.trace)) s h in
    subst (FailsToReplay terms text) (sym q)
    (first_barred terms text f.place (told f.trace) f.rest.now index line reason (read_text text f r short) (fits_at terms text f r fits) p (omega (arith, m, l)))

-- ---- the end

-- what is known where every event was allowed
pub record AllMade (ws : List Wire) (workers budget : Option ℕ) (f : Front) (complete : Bool) (most : ℕ) : Type 0 where
  pub legal : Legal (run_of (asking ws workers budget) (told f.trace)) (past_of f.trace.history.events.items)
  pub finished : IsTrue complete ↔ IsComplete (run_of (asking ws workers budget) (told f.trace)) (past_of f.trace.history.events.items)
  pub greatest : most ≡ peak (run_of (asking ws workers budget) (told f.trace)) (past_of f.trace.history.events.items)

pub all_made : (ws : List Wire) (workers budget : Option ℕ) (f : Front) (table next : Ledger) (cs : List ℕ) (es : List Event) (complete : Bool) (most : ℕ)
    → IsFresh ws (told f.trace) table → cs ≡ f.trace.costs.items → es ≡ f.trace.history.events.items → Legal (setup_at cs table) (past_of es) → next ≡ ledger_after table es
    → IsTrue complete ↔ IsComplete (setup_of next) next.events → most ≡ peak (setup_at cs table) (past_of es) → AllMade ws workers budget f complete most
all_made ws workers budget f table next cs es complete most h c d legal n k m =
    let run : Setup = run_of (asking ws workers budget) (told f.trace) in
    let s : setup_at cs table ≡ run = same_setup ws workers budget (told f.trace) table cs h c in
    let done : next ≡ ledger_after (record { wires = ws; budget = f.trace.history.budget; workers = f.trace.history.workers; events = [] }) f.trace.history.events.items =
    n ∙ ap (λ x. ledger_after x es) h ∙ ap (λ x. ledger_after (record { wires = ws; budget = f.trace.history.budget; workers = f.trace.history.workers; events = [] }) x) d in
    record {
      legal = subst (λ x. Legal run (past_of x)) d (subst (λ x. Legal x (past_of es)) s legal);
      finished = subst (λ x. IsTrue complete ↔ IsComplete (setup_of x) x.events) done k;
      greatest = m ∙ ap (λ x. peak x (past_of es)) s ∙ ap (λ x. peak run (past_of x)) d;
    }

-- the header, where all of it was read
header_meets : (terms : Terms) (t : Told) (n : ℕ) → 4 ≤ n → HeaderFits terms n t → HeaderMeets terms t
header_meets terms t n low h =
    let right : AreOff terms t.workers → ⊥ = h.workers (omega (arith, low)) in
    record {
      operations = h.operations (omega (arith, low));
      some = elim (cases_lt t.workers 1) [
        | inl lt ↦ absurd (right (inl (inl lt)))
        | inr ge ↦ ge
      ];
      few = elim (cases_lt 64 t.workers) [
        | inl lt ↦ absurd (right (inl (inr lt)))
        | inr ge ↦ ge
      ];
      workers = λ d. right (inr d);
      budget = h.budget low;
    }

ended_lines : (text : List ℕ) (f : Front) → IsFrontOf text f → f.place ≡ Nothing → 4 ≤ f.lines
ended_lines text f r p =
    let n : f.lines ≡ length (lines_before Nothing (told f.trace)) = r.count ∙ ap (λ x. length (lines_before x (told f.trace))) p in
    omega (arith, n, length_whole (told f.trace))

pub replayed : (ws xs : List Wire) (workers budget : Option ℕ) (text : List ℕ) (f : Front) (complete : Bool) (most : ℕ) (res : Result Summary TraceFault) → IsFrontOf text f → length text ≤ longest_trace → xs ≡ ws
    → HeaderFits (asking xs workers budget) f.lines (told f.trace) → AllMade ws workers budget f complete most → Concludes f complete most res → IfOk res (Replays (asking ws workers budget) text)
replayed ws xs workers budget text f complete most (Ok s) r short q h m c =
    let terms : Terms = asking ws workers budget in
    let fits : HeaderFits terms f.lines (told f.trace) = subst (λ x. HeaderFits (asking x workers budget) f.lines (told f.trace)) q h in
    record {
      told = told f.trace;
      spells = whole_here text f r c.0.ended c.0.whole;
      short = short;
      meets = record { header = header_meets terms (told f.trace) f.lines (ended_lines text f r c.0.ended) fits; legal = m.legal; complete = m.finished.0 c.0.finished };
      operations = c.1;
      events = c.2;
      peak = c.3 ∙ m.greatest;
    }
replayed ws xs workers budget text f complete most (Err e) r short q h m c = tt

-- how a text is refused at its end
bad_end : (ws : List Wire) (workers budget : Option ℕ) (text : List ℕ) (f : Front) (complete : Bool) (most line : ℕ) (reason : TraceReason) → IsFrontOf text f → length text ≤ longest_trace
    → HeaderFits (asking ws workers budget) f.lines (told f.trace) → AllMade ws workers budget f complete most → EndsBadly f complete line reason
    → IsFirstFault (asking ws workers budget) text (record { line = line; reason = reason })
bad_end ws workers budget text f complete most line Syntax r short h m c =
    let terms : Terms = asking ws workers budget in
    let fault : IsSyntaxFault text (f.lines + 1) = fault_here text f false r (λ t. absurd (true≢false (sym t)), λ w. absurd ((c.1 w.0).1 w.1)) refl in
    first_syntax terms text f.place (told f.trace) f.rest.now line (read_text text f r short) (fits_at terms text f r h) m.legal (λ p. m.finished.0 (c.1 p).0)
    (subst (IsSyntaxFault text) (sym c.0) fault) (c.0 ∙ ap (λ (x : ℕ). x + 1) r.count)
bad_end ws workers budget text f complete most line Unfinished r short h m c =
    let terms : Terms = asking ws workers budget in
    let read = read_text text f r short in
    let at : IsReadText text Nothing (told f.trace) f.rest.now = subst (λ x. IsReadText text x (told f.trace) f.rest.now) c.1 read in
    let count : f.lines ≡ length (lines_before Nothing (told f.trace)) = r.count ∙ ap (λ x. length (lines_before x (told f.trace))) c.1 in
    first_unfinished terms text (told f.trace) f.rest.now line at (subst (λ n. HeaderFits terms n (told f.trace)) count h) m.legal (λ k. true≢false (sym (m.finished.1 k) ∙ c.2)) (c.0 ∙ count)
bad_end ws workers budget text f complete most line TooLong r short h m c = absurd c
bad_end ws workers budget text f complete most line HeaderMismatch r short h m c = absurd c
bad_end ws workers budget text f complete most line WrongCharge r short h m c = absurd c
bad_end ws workers budget text f complete most line NotEnabled r short h m c = absurd c

pub refused_at_end : (ws xs : List Wire) (workers budget : Option ℕ) (text : List ℕ) (f : Front) (complete : Bool) (most : ℕ) (res : Result Summary TraceFault) → IsFrontOf text f → length text ≤ longest_trace → xs ≡ ws
    → HeaderFits (asking xs workers budget) f.lines (told f.trace) → AllMade ws workers budget f complete most → Concludes f complete most res → IfErr res (FailsToReplay (asking ws workers budget) text)
refused_at_end ws xs workers budget text f complete most (Ok s) r short q h m c = tt
refused_at_end ws xs workers budget text f complete most (Err (Refused e)) r short q h m c =
    bad_end ws workers budget text f complete most e.line e.reason r short (subst (λ x. HeaderFits (asking x workers budget) f.lines (told f.trace)) q h) m c
refused_at_end ws xs workers budget text f complete most (Err Memory) r short q h m c = tt
