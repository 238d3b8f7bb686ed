-- Which fault is the first.
use Rattle.std.proofs.Common.{◌≡◌, ℕ, zero, suc, ◌+◌, ◌<◌, ◌≤◌, ◌⊎◌, inl, inr, List, [], ◌∷◌, ◌++◌, length, refl, sym, ap, subst, ◌∙◌, length-append, arith}
use Rattle.std.proofs.lemmas.Bool.{cases_lt}
use Rattle.ledger_history.specs.declared.event.Event.{Event}
use Rattle.ledger_history.specs.declared.event.Event.TheVariants.{Claim, Charge, Publish, Release, Stop}
use Rattle.ledger_history.specs.Histories.{IsComplete}
use Rattle.ledger_history.specs.Enabled.{Enabled, Legal}
use Rattle.ledger_record.specs.Records.{past_of}
use Rattle.trace_line.specs.declared.line.Line.{Line}
use Rattle.trace_line.specs.declared.line.Line.TheVariants as lines
use Rattle.trace_line.specs.Lines.{line_text, Begins}
use Rattle.trace_text.specs.declared.fault.TraceReason.{TraceReason}
use Rattle.trace_text.specs.declared.fault.TraceReason.TheVariants.{TooLong, Syntax, HeaderMismatch, WrongCharge, NotEnabled, Unfinished}
use Rattle.trace_text.specs.declared.fault.TraceRefusal.{TraceRefusal}
use Rattle.trace_text.specs.declared.place.LinePlace.{LinePlace}
use Rattle.trace_text.specs.declared.place.LinePlace.TheVariants.{Nothing}
use Rattle.trace_text.specs.Traces.{Told, Spells, longest_trace}
use Rattle.trace_text.specs.Places.{lines_before}
use Rattle.trace_text.specs.Refusals.{Terms, IsWrongCharge, IsFault, IsFirstFault, rank}
use Rattle.trace_text.proofs.Texts.{line_some}
use Rattle.trace_text.proofs.FrontLaws.{reaches_end}
use Rattle.trace_replay.specs.Replays.{run_of, HeaderMeets, Meets}
use Rattle.trace_replay.specs.Working.Headers.{HeaderFits, IsOffAt}
use Rattle.trace_replay.specs.Working.Reruns.{IsBarred, StopsAt}
use Rattle.trace_replay.proofs.Said.{lines_to, of_lines, costs_said, StepOffends}
use Rattle.trace_replay.proofs.Standing.{operations_stand, workers_stand, budget_stands, step_stands, end_stands, whole_parted, was_enabled, compare_places}
use Rattle.trace_replay.proofs.Offences.{HeaderOff, StepOff, length-lines_to}
use Rattle.trace_replay.proofs.Faults.{IsReadText, offence_at, ReadOff, EndedAt, what_fault}

-- the line and the reason come no later than these
abbrev Precedes : ℕ → TraceReason → ℕ → TraceReason → Type 0
Precedes line reason l r = (line < l) ⊎ ((line ≡ l) × (rank reason ≤ rank r))

-- what comes no later than a line that offends and than the end of reading is the first
first_of_read : (terms : Terms) (text : List ℕ) (place : LinePlace) (t : Told) (rest : List ℕ) (line : ℕ) (reason : TraceReason) → IsReadText text place t rest → IsFault terms text line reason
    → ((l : ℕ) (r : TraceReason) → ReadOff terms place t l r → Precedes line reason l r) → ((l : ℕ) (r : TraceReason) → EndedAt text place t l r → Precedes line reason l r)
    → IsFirstFault terms text (record { line = line; reason = reason })
first_of_read terms text place t rest line reason r f off ended =
    record {
      fault = f;
      first = λ l q g. elim (what_fault terms text place t rest l q r g) [
        | inl o ↦ off l q o
        | inr o ↦ ended l q o
      ];
    }

-- ---- a number of the header

header_first : (terms : Terms) (place : LinePlace) (t : Told) (line l : ℕ) (r : TraceReason) → IsOffAt terms (length (lines_before place t)) t line → ReadOff terms place t l r → Precedes line HeaderMismatch l r
header_first terms place t line l r o f = elim f.off [
  | inl h ↦ elim h.number [
    | inl a ↦ elim (cases_lt 2 line) [
      | inl lt ↦ absurd (a.1 (o.before_workers lt))
      | inr le ↦ inr (omega (arith, o.low, a.0), subst (λ x. rank HeaderMismatch ≤ rank x) (sym h.why) (omega arith))
    ]
    | inr q ↦ elim q [
      | inl a ↦ elim (cases_lt 3 line) [
        | inl lt ↦ absurd (o.before_budget lt a.1)
        | inr le ↦ elim (cases_lt line 3) [
          | inl lt ↦ inl (omega (arith, lt, a.0))
          | inr ge ↦ inr (omega (arith, le, ge, a.0), subst (λ x. rank HeaderMismatch ≤ rank x) (sym h.why) (omega arith))
        ]
      ]
      | inr a ↦ elim (cases_lt line 4) [
        | inl lt ↦ inl (omega (arith, lt, a.0))
        | inr ge ↦ inr (omega (arith, ge, o.high, a.0), subst (λ x. rank HeaderMismatch ≤ rank x) (sym h.why) (omega arith))
      ]
    ]
  ]
  | inr q ↦ elim q [
    | inl s ↦ inl (omega (arith, s.at, o.high))
    | inr s ↦ inl (omega (arith, s.at, o.high))
  ]
]

header_fault : (terms : Terms) (text : List ℕ) (place : LinePlace) (t : Told) (rest : List ℕ) (line : ℕ) → IsReadText text place t rest → IsOffAt terms (length (lines_before place t)) t line → IsFault terms text line HeaderMismatch
header_fault terms text place t rest line r o = elim (cases_lt line 3) [
  | inl lt ↦ offence_at terms text place t rest _ (lines.Operations t.operations) line HeaderMismatch r (operations_stand place t (omega (arith, o.read, o.low))) (omega (arith, lt, o.low)) (o.operations (omega (arith, lt, o.low)))
  | inr ge ↦ elim (cases_lt line 4) [
    | inl lt ↦ offence_at terms text place t rest _ (lines.Workers t.workers) line HeaderMismatch r (workers_stand place t (omega (arith, o.read, ge))) (omega (arith, lt, ge)) (o.workers (omega (arith, lt, ge)))
    | inr gt ↦ offence_at terms text place t rest _ (lines.Budget t.budget) line HeaderMismatch r (budget_stands place t (omega (arith, o.read, gt))) (omega (arith, gt, o.high)) (o.budget (omega (arith, gt, o.high)))
  ]
]

pub first_mismatch : (terms : Terms) (text : List ℕ) (place : LinePlace) (t : Told) (rest : List ℕ) (line : ℕ) → IsReadText text place t rest → IsOffAt terms (length (lines_before place t)) t line
    → IsFirstFault terms text (record { line = line; reason = HeaderMismatch })
first_mismatch terms text place t rest line r o =
    first_of_read terms text place t rest line HeaderMismatch r (header_fault terms text place t rest line r o) (λ l q f. header_first terms place t line l q o f) (λ l q f. inl (omega (arith, f.at, o.read)))

-- ---- where the header is right

header_right : (terms : Terms) (place : LinePlace) (t : Told) (l : ℕ) (r : TraceReason) → HeaderFits terms (length (lines_before place t)) t → HeaderOff terms t l r → l ≤ length (lines_before place t) → ⊥
header_right terms place t l r f h read = elim h.number [
  | inl a ↦ a.1 (f.operations (omega (arith, read, a.0)))
  | inr q ↦ elim q [
    | inl a ↦ f.workers (omega (arith, read, a.0)) a.1
    | inr a ↦ f.budget (omega (arith, read, a.0)) a.1
  ]
]

-- an event that was allowed has its cost
right_charge : (terms : Terms) (t : Told) (h : List Event) (e : Event) → Enabled (run_of terms t) h e → IsWrongCharge t.costs e → ⊥
right_charge terms t h (Charge w i c) e b = b.1 (sym e.cost)
right_charge terms t h (Claim w i) e b = b
right_charge terms t h (Publish w i) e b = b
right_charge terms t h (Release w i k) e b = b
right_charge terms t h (Stop w) e b = b

allowed : (terms : Terms) (t : Told) (es : List Event) (e : Event) (r : TraceReason) → Enabled (run_of terms t) (past_of es) e → StepOffends terms t es e r → ⊥
allowed terms t es e r h o = elim o [
  | inl w ↦ right_charge terms t (past_of es) e h w.1
  | inr n ↦ n.1 h
]

steps_right : (terms : Terms) (t : Told) (l : ℕ) (r : TraceReason) → Legal (run_of terms t) (past_of t.events) → StepOff terms t l r → ⊥
steps_right terms t l r h s =
    allowed terms t s.before s.event r (was_enabled (run_of terms t) s.before s.event s.after (subst (λ x. Legal (run_of terms t) (past_of x)) s.parts h)) s.how

-- ---- an event

step_how : (terms : Terms) (t : Told) (es : List Event) (e : Event) (reason r : TraceReason) → IsBarred (run_of terms t) t.costs (past_of es) e reason → StepOffends terms t es e r → rank reason ≤ rank r
step_how terms t es e WrongCharge r b o = elim o [
  | inl w ↦ subst (λ x. rank WrongCharge ≤ rank x) (sym w.0) (omega arith)
  | inr n ↦ subst (λ x. rank WrongCharge ≤ rank x) (sym n.0) (omega arith)
]
step_how terms t es e NotEnabled r b o = elim o [
  | inl w ↦ absurd (b.0 w.1)
  | inr n ↦ subst (λ x. rank NotEnabled ≤ rank x) (sym n.0) (omega arith)
]
step_how terms t es e TooLong r b o = absurd b
step_how terms t es e Syntax r b o = absurd b
step_how terms t es e HeaderMismatch r b o = absurd b
step_how terms t es e Unfinished r b o = absurd b

step_first : (terms : Terms) (place : LinePlace) (t : Told) (index : ℕ) (line : ℕ) (reason : TraceReason) (l : ℕ) (r : TraceReason)
    → HeaderFits terms (length (lines_before place t)) t → StopsAt (run_of terms t) t.costs t.events index reason → line ≡ 5 + length t.costs + index → ReadOff terms place t l r → Precedes line reason l r
step_first terms place t index line reason l r h s n f = elim f.off [
  | inl o ↦ absurd (header_right terms place t l r h o f.read)
  | inr q ↦ elim q [
    | inl o ↦ elim (compare_places s.before s.event s.after o.before o.event o.after (sym s.parts ∙ o.parts)) [
      | inl p ↦ absurd (allowed terms t o.before o.event r (was_enabled (run_of terms t) o.before o.event p.between (subst (λ x. Legal (run_of terms t) (past_of x)) p.parts s.legal)) o.how)
      | inr p ↦ elim p [
        | inl e ↦
            let same : length s.before ≡ length o.before = ap (λ (x : List Event). length x) e.0 in
            let how : StepOffends terms t s.before s.event r = subst (λ x. StepOffends terms t x s.event r) (sym e.0) (subst (λ x. StepOffends terms t o.before x r) (sym e.1) o.how) in
            inr (omega (arith, n, s.at, o.at, same), step_how terms t s.before s.event reason r s.barred how)
        | inr lt ↦ inl (omega (arith, n, s.at, o.at, lt))
      ]
    ]
    | inr o ↦ inl (omega (arith, n, s.at, o.at, ap (λ (x : List Event). length x) s.parts, length-append s.before (s.event ∷ s.after)))
  ]
]

step_fault : (terms : Terms) (text : List ℕ) (place : LinePlace) (t : Told) (rest : List ℕ) (index line : ℕ) (reason : TraceReason) → IsReadText text place t rest
    → StopsAt (run_of terms t) t.costs t.events index reason → line ≡ 5 + length t.costs + index → IsFault terms text line reason
step_fault terms text place t rest index line reason r s n =
    by_reason reason s.barred
  where
    here : line ≡ length (lines_to t s.before) + 1
    here = omega (arith, n, s.at, length-lines_to t s.before)

    by_reason : (q : TraceReason) → IsBarred (run_of terms t) t.costs (past_of s.before) s.event q → IsFault terms text line q
    by_reason WrongCharge b =
        offence_at terms text place t rest (lines_to t s.before) (lines.Step s.event) line WrongCharge r (step_stands place t s.before s.event s.after r.read s.parts) here (subst (λ cs. IsWrongCharge cs s.event) (sym (costs_said t s.before)) b)
    by_reason NotEnabled b =
        offence_at terms text place t rest (lines_to t s.before) (lines.Step s.event) line NotEnabled r (step_stands place t s.before s.event s.after r.read s.parts) here (of_lines (λ u p. Enabled u p s.event → ⊥) terms t s.before b.1)
    by_reason TooLong b = absurd b
    by_reason Syntax b = absurd b
    by_reason HeaderMismatch b = absurd b
    by_reason Unfinished b = absurd b

pub first_barred : (terms : Terms) (text : List ℕ) (place : LinePlace) (t : Told) (rest : List ℕ) (index line : ℕ) (reason : TraceReason) → IsReadText text place t rest
    → HeaderFits terms (length (lines_before place t)) t → StopsAt (run_of terms t) t.costs t.events index reason → line ≡ 5 + length t.costs + index
    → IsFirstFault terms text (record { line = line; reason = reason })
first_barred terms text place t rest index line reason r h s n =
    let stands = step_stands place t s.before s.event s.after r.read s.parts in
    let long : length (lines_before place t) ≡ length (lines_to t s.before ++ lines.Step s.event ∷ stands.after) = ap (λ (x : List Line). length x) stands.parts in
    first_of_read terms text place t rest line reason r (step_fault terms text place t rest index line reason r s n) (λ l q f. step_first terms place t index line reason l q h s n f)
    (λ l q f. inl (omega (arith, f.at, n, s.at, long, length-append (lines_to t s.before) (lines.Step s.event ∷ stands.after), length-lines_to t s.before)))

-- ---- the end

pub length_whole : (t : Told) → length (lines_before Nothing t) ≡ 5 + length t.costs + length t.events
length_whole t =
    let n : length (lines_before Nothing t) ≡ length (lines_to t t.events ++ (lines.End ∷ [])) = ap (λ (x : List Line). length x) (whole_parted t) in
    omega (arith, n, length-append (lines_to t t.events) (lines.End ∷ []), length-lines_to t t.events)

pub first_unfinished : (terms : Terms) (text : List ℕ) (t : Told) (rest : List ℕ) (line : ℕ) → IsReadText text Nothing t rest → HeaderFits terms (length (lines_before Nothing t)) t
    → Legal (run_of terms t) (past_of t.events) → (IsComplete (run_of terms t) (past_of t.events) → ⊥) → line ≡ length (lines_before Nothing t) → IsFirstFault terms text (record { line = line; reason = Unfinished })
first_unfinished terms text t rest line r h legal unfinished n =
    let whole = length_whole t in
    first_of_read terms text Nothing t rest line Unfinished r
    (offence_at terms text Nothing t rest (lines_to t t.events) lines.End line Unfinished r (end_stands t) (omega (arith, n, whole, length-lines_to t t.events)) (of_lines (λ s p. IsComplete s p → ⊥) terms t t.events unfinished))
    (λ l q f. elim f.off [
      | inl o ↦ absurd (header_right terms Nothing t l q h o f.read)
      | inr o ↦ elim o [
        | inl s ↦ absurd (steps_right terms t l q legal s)
        | inr e ↦ inr (omega (arith, n, whole, e.at), subst (λ x. rank Unfinished ≤ rank x) (sym e.why) (omega arith))
      ]
    ])
    (λ l q f. inl (omega (arith, n, f.at)))

pub first_syntax : (terms : Terms) (text : List ℕ) (place : LinePlace) (t : Told) (rest : List ℕ) (line : ℕ) → IsReadText text place t rest → HeaderFits terms (length (lines_before place t)) t
    → Legal (run_of terms t) (past_of t.events) → (place ≡ Nothing → IsComplete (run_of terms t) (past_of t.events)) → IsFault terms text line Syntax → line ≡ length (lines_before place t) + 1
    → IsFirstFault terms text (record { line = line; reason = Syntax })
first_syntax terms text place t rest line r h legal complete fault n =
    first_of_read terms text place t rest line Syntax r fault
    (λ l q f. elim f.off [
      | inl o ↦ absurd (header_right terms place t l q h o f.read)
      | inr o ↦ elim o [
        | inl s ↦ absurd (steps_right terms t l q legal s)
        | inr e ↦ absurd (e.open_end (complete e.ended))
      ]
    ])
    (λ l q f. inr (omega (arith, n, f.at), subst (λ x. rank Syntax ≤ rank x) (sym f.why) (omega arith)))

-- ---- a text that is too long

pub first_too_long : (terms : Terms) (text : List ℕ) → longest_trace < length text → IsFirstFault terms text (record { line = 0; reason = TooLong })
first_too_long terms text h =
    record { fault = (refl, h); first = λ l q f. from_start l q }
  where
    from_start : (l : ℕ) (q : TraceReason) → Precedes 0 TooLong l q
    from_start zero q = inr (refl, omega arith)
    from_start (suc l) q = inl (omega arith)

-- ---- the laws

nothing_begins : (l : Line) (more : List ℕ) → Begins [] l more → ⊥
nothing_begins l more b = omega (arith, line_some l b.line, ap (λ (x : List ℕ). length x) b.parts, length-append (line_text l) more)

pub spelled_is_read : (text : List ℕ) (t : Told) → Spells text t → length text ≤ longest_trace → IsReadText text Nothing t []
spelled_is_read text t s short =
    record {
      read = record { operations = s.trace.operations; workers = s.trace.workers; budget = s.trace.budget; costs = s.trace.costs; events = s.trace.events; counts = s.trace.count };
      reached = reaches_end text t s;
      ends = λ l more b f. nothing_begins l more b;
      short = short;
    }

header_met : (terms : Terms) (t : Told) (n : ℕ) → HeaderMeets terms t → HeaderFits terms n t
header_met terms t n m =
    record {
      operations = λ _. m.operations;
      workers = λ _ o. elim o [
        | inl a ↦ elim a [
          | inl z ↦ omega (arith, z, m.some)
          | inr z ↦ omega (arith, z, m.few)
        ]
        | inr d ↦ m.workers d
      ];
      budget = λ _. m.budget;
    }

pub no_fault : (terms : Terms) (text : List ℕ) (t : Told) (line : ℕ) (reason : TraceReason) → Spells text t → length text ≤ longest_trace → Meets terms t → IsFault terms text line reason → ⊥
no_fault terms text t line reason s short m f = elim (what_fault terms text Nothing t [] line reason (spelled_is_read text t s short) f) [
  | inl o ↦ elim o.off [
    | inl h ↦ header_right terms Nothing t line reason (header_met terms t _ m.header) h o.read
    | inr q ↦ elim q [
      | inl p ↦ steps_right terms t line reason m.legal p
      | inr e ↦ e.open_end m.complete
    ]
  ]
  | inr e ↦ e.fault.unspelled t s
]

reason_at : ℕ → TraceReason
reason_at zero = TooLong
reason_at (suc zero) = Syntax
reason_at (suc (suc zero)) = HeaderMismatch
reason_at (suc (suc (suc zero))) = WrongCharge
reason_at (suc (suc (suc (suc zero)))) = NotEnabled
reason_at (suc (suc (suc (suc (suc n))))) = Unfinished

reason_of_rank : (r : TraceReason) → reason_at (rank r) ≡ r
unfolding reason_at
reason_of_rank TooLong = refl
reason_of_rank Syntax = refl
reason_of_rank HeaderMismatch = refl
reason_of_rank WrongCharge = refl
reason_of_rank NotEnabled = refl
reason_of_rank Unfinished = refl

pub one_first : (terms : Terms) (text : List ℕ) (q r : TraceRefusal) → IsFirstFault terms text q → IsFirstFault terms text r → q ≡ r
one_first terms text q r f g =
    let a = f.first r.line r.reason g.fault in
    let b = g.first q.line q.reason f.fault in
    let both : (q.line ≡ r.line) × (rank q.reason ≡ rank r.reason) = elim a [
      | inl lt ↦ elim b [
        | inl gt ↦ absurd (omega (arith, lt, gt))
        | inr e ↦ absurd (omega (arith, lt, e.0))
      ]
      | inr d ↦ elim b [
        | inl gt ↦ absurd (omega (arith, gt, d.0))
        | inr e ↦ (d.0, omega (arith, d.1, e.1))
      ]
    ] in
    let why : q.reason ≡ r.reason = sym (reason_of_rank q.reason) ∙ ap reason_at both.1 ∙ reason_of_rank r.reason in
    ap (λ (n : ℕ). let x : TraceRefusal = record { line = n; reason = q.reason } in x) both.0 ∙ ap (λ (w : TraceReason). let x : TraceRefusal = record { line = r.line; reason = w } in x) why
