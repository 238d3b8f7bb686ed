-- The faults of a text whose front was read: each is of a line that was read, or stands where reading ended.
use Rattle.std.proofs.Common.{◌≡◌, ℕ, ◌+◌, ◌≤◌, ◌⊎◌, inl, inr, List, [], ◌∷◌, ◌++◌, length, refl, sym, ap, ◌∙◌, append_assoc, append-nil, length-append, arith}
use Rattle.trace_line.specs.declared.line.Line.{Line}
use Rattle.trace_text.specs.declared.fault.TraceReason.{TraceReason}
use Rattle.trace_text.specs.declared.fault.TraceReason.TheVariants.{TooLong, Syntax, HeaderMismatch, WrongCharge, NotEnabled, Unfinished}
use Rattle.trace_text.specs.declared.place.LinePlace.{LinePlace}
use Rattle.trace_text.specs.Traces.{Told, text_of, longest_trace}
use Rattle.trace_text.specs.Fronts.{IsFront, Reaches, EndsAt}
use Rattle.trace_text.specs.Places.{lines_before, IsReadTo}
use Rattle.trace_text.specs.Refusals.{Terms, Offends, ComesTo, IsOffence, IsSyntaxFault, IsFault}
use Rattle.trace_text.proofs.Texts.{front_lines, compare_lines, text-append}
use Rattle.trace_text.proofs.FrontLaws.{stops, same_way}
use Rattle.trace_replay.proofs.Standing.{Standing}
use Rattle.trace_replay.proofs.Offences.{Off, what_offends}

-- a text of which all that is a trace was read
pub record IsReadText (text : List ℕ) (place : LinePlace) (t : Told) (rest : List ℕ) : Type 0 where
  pub read : IsReadTo place t
  pub reached : Reaches text (lines_before place t) rest
  pub ends : EndsAt (lines_before place t) rest
  pub short : length text ≤ longest_trace

-- ---- lines to which the text comes

in_lines : (text : List ℕ) (place : LinePlace) (t : Told) (rest : List ℕ) (before : List Line) (here : Line) → IsReadText text place t rest → ComesTo text before here → Standing (lines_before place t) before here
in_lines text place t rest before here r c =
    let ls : List Line = lines_before place t in
    let ks : List Line = before ++ here ∷ [] in
    elim (compare_lines ks ls c.rest rest (front_lines ks c.reached.front) (front_lines ls r.reached.front) (sym c.reached.parts ∙ r.reached.parts)) [
      | inl o ↦ record { after = o.more; parts = o.lines ∙ append_assoc before (here ∷ []) o.more }
      | inr o ↦
          let n : o.more ≡ [] = stops ls rest o.more c.rest ks r.ends c.reached.front o.lines o.rest in
          record { after = []; parts = sym (o.lines ∙ ap (λ x. ls ++ x) n ∙ append-nil ls) }
    ]

shorter_front : (ls before : List Line) (here : Line) (after : List Line) → ls ≡ before ++ here ∷ after → IsFront ls → IsFront (before ++ here ∷ [])
shorter_front ls before here after e f =
    record {
      of = f.of;
      trace = f.trace;
      more = after ++ f.more;
      parts = f.parts ∙ ap (λ x. x ++ f.more) e ∙ append_assoc before (here ∷ after) f.more ∙ sym (append_assoc before (here ∷ []) (after ++ f.more));
    }

pub comes_to : (text : List ℕ) (place : LinePlace) (t : Told) (rest : List ℕ) (before : List Line) (here : Line) → IsReadText text place t rest → Standing (lines_before place t) before here → ComesTo text before here
comes_to text place t rest before here r s =
    let parted : lines_before place t ≡ (before ++ here ∷ []) ++ s.after = s.parts ∙ sym (append_assoc before (here ∷ []) s.after) in
    record {
      rest = text_of s.after ++ rest;
      reached = record {
        front = shorter_front (lines_before place t) before here s.after s.parts r.reached.front;
        parts = r.reached.parts ∙ ap (λ x. text_of x ++ rest) parted ∙ ap (λ x. x ++ rest) (text-append (before ++ here ∷ []) s.after) ∙ append_assoc (text_of (before ++ here ∷ [])) (text_of s.after) rest;
      };
    }

pub offence_at : (terms : Terms) (text : List ℕ) (place : LinePlace) (t : Told) (rest : List ℕ) (before : List Line) (here : Line) (line : ℕ) (reason : TraceReason)
    → IsReadText text place t rest → Standing (lines_before place t) before here → line ≡ length before + 1 → Offends terms before here reason → IsOffence terms text line reason
offence_at terms text place t rest before here line reason r s n o = record { before = before; here = here; comes = comes_to text place t rest before here r s; at = n; offends = o }

-- ---- what a fault is

-- a line that was read offends
pub record ReadOff (terms : Terms) (place : LinePlace) (t : Told) (line : ℕ) (reason : TraceReason) : Type 0 where
  pub off : Off terms place t line reason
  pub read : line ≤ length (lines_before place t)

-- reading ended at this line
pub record EndedAt (text : List ℕ) (place : LinePlace) (t : Told) (line : ℕ) (reason : TraceReason) : Type 0 where
  pub why : reason ≡ Syntax
  pub at : line ≡ length (lines_before place t) + 1
  pub fault : IsSyntaxFault text line

read_off : (terms : Terms) (text : List ℕ) (place : LinePlace) (t : Told) (rest : List ℕ) (line : ℕ) (reason : TraceReason) → IsReadText text place t rest → IsOffence terms text line reason → ReadOff terms place t line reason
read_off terms text place t rest line reason r o =
    let s = in_lines text place t rest o.before o.here r o.comes in
    record {
      off = what_offends place terms t o.before o.here s.after line reason s.parts o.at o.offends;
      read = omega (arith, o.at, ap (λ (x : List Line). length x) s.parts, length-append o.before (o.here ∷ s.after));
    }

pub what_fault : (terms : Terms) (text : List ℕ) (place : LinePlace) (t : Told) (rest : List ℕ) (line : ℕ) (reason : TraceReason) → IsReadText text place t rest → IsFault terms text line reason
    → ReadOff terms place t line reason ⊎ EndedAt text place t line reason
what_fault terms text place t rest line TooLong r f = absurd (omega (arith, f.1, r.short))
what_fault terms text place t rest line Syntax r f =
    let e = same_way text f.before (lines_before place t) f.rest rest f.reached f.ends r.reached r.ends in
    inr (record { why = refl; at = omega (arith, f.at, ap (λ (x : List Line). length x) e); fault = f })
what_fault terms text place t rest line HeaderMismatch r f = inl (read_off terms text place t rest line HeaderMismatch r f)
what_fault terms text place t rest line WrongCharge r f = inl (read_off terms text place t rest line WrongCharge r f)
what_fault terms text place t rest line NotEnabled r f = inl (read_off terms text place t rest line NotEnabled r f)
what_fault terms text place t rest line Unfinished r f = inl (read_off terms text place t rest line Unfinished r f)
