-- Texts of lines: two lists of lines at the front of one text are one behind the other.
use Rattle.std.proofs.Common.{◌≡◌, ℕ, ◌+◌, ◌<◌, ◌≤◌, ◌^◌, ◌⊎◌, inl, inr, List, [], ◌∷◌, ◌++◌, length, map, refl, sym, ap, subst, ◌∙◌, append_assoc, length-append, arith}
use Rattle.std.specs.List.{AllByRecursion}
use Rattle.list_facts.proofs.Members.{all_append}
use Rattle.ledger_history.specs.declared.event.Event.{Event}
use Rattle.ledger_history.specs.declared.event.Event.TheVariants.{Claim, Charge, Publish, Release, Stop}
use Rattle.trace_line.specs.declared.line.Line.{Line}
use Rattle.trace_line.specs.declared.line.Line.TheVariants.{Title, Operations, Workers, Budget, Cost, Step, End}
use Rattle.trace_line.specs.Lines.{title, before_operations, before_workers, before_budget, before_cost, before_claim, before_charge, before_publish, before_release, last_line, line_text, HasText, IsLine, Begins}
use Rattle.trace_line.proofs.LineLaws.{one_line}
use Rattle.trace_text.specs.Traces.{Told, IsTrace, cost_lines, lines_of, text_of}
use Rattle.trace_text.specs.Fronts.{IsFront}
use Rattle.trace_text.proofs.LineLists.{all_front}

-- a line has a byte
pub line_some : (l : Line) → IsLine l → 0 < length (line_text l)
unfolding title before_operations before_workers before_budget before_cost before_claim before_charge before_publish before_release last_line
line_some Title h = omega arith
line_some (Operations n) h = omega arith
line_some (Workers n) h = omega arith
line_some (Budget n) h = omega arith
line_some (Cost i c) h = omega arith
line_some (Step (Claim w i)) h = omega arith
line_some (Step (Charge w i c)) h = omega arith
line_some (Step (Publish w i)) h = omega arith
line_some (Step (Release w i k)) h = omega arith
line_some (Step (Stop w)) h = absurd h
line_some End h = omega arith

-- ---- the lines of a trace have texts

costs_are_lines : (i n : ℕ) (cs : List ℕ) → i + length cs ≤ n → n < 2 ^ 32 → AllByRecursion (λ c. c < 2 ^ 64) cs → AllByRecursion IsLine (cost_lines i cs)
costs_are_lines i n [] h s p = tt
costs_are_lines i n (c ∷ cs) h s p = ((omega arith, p.0), costs_are_lines (i + 1) n cs (omega arith) s p.1)

events_are_lines : (es : List Event) → AllByRecursion HasText es → AllByRecursion IsLine (map Step es)
events_are_lines [] p = tt
events_are_lines (e ∷ es) p = (p.0, events_are_lines es p.1)

pub all_lines : (t : Told) → IsTrace t → AllByRecursion IsLine (lines_of t)
all_lines t h =
    let costs = costs_are_lines 0 t.operations t.costs (omega (arith, h.count)) h.operations h.costs in
    let events = all_append IsLine (map Step t.events) (End ∷ []) (events_are_lines t.events h.events) (tt, tt) in
    (tt, (h.operations, (h.workers, (h.budget, all_append IsLine (cost_lines 0 t.costs) (map Step t.events ++ (End ∷ [])) costs events))))

pub front_lines : (ls : List Line) → IsFront ls → AllByRecursion IsLine ls
front_lines ls f = all_front IsLine ls f.more (subst (AllByRecursion IsLine) f.parts (all_lines f.of f.trace))

-- ---- two lists of lines at one front

-- the second list goes on behind the first
pub record GoesOn (ks : List Line) (a : List ℕ) (ls : List Line) (b : List ℕ) : Type 0 where
  pub more : List Line
  pub lines : ls ≡ ks ++ more
  pub rest : a ≡ text_of more ++ b

pub compare_lines : (ks ls : List Line) (a b : List ℕ) → AllByRecursion IsLine ks → AllByRecursion IsLine ls → text_of ks ++ a ≡ text_of ls ++ b → GoesOn ks a ls b ⊎ GoesOn ls b ks a
compare_lines [] ls a b p q e = inl (record { more = ls; lines = refl; rest = e })
compare_lines (k ∷ ks) [] a b p q e = inr (record { more = k ∷ ks; lines = refl; rest = sym e })
compare_lines (k ∷ ks) (l ∷ ls) a b p q e =
    let f : Begins (line_text k ++ (text_of ks ++ a)) k (text_of ks ++ a) = record { line = p.0; parts = refl } in
    let g : Begins (line_text k ++ (text_of ks ++ a)) l (text_of ls ++ b) = record { line = q.0; parts = sym (append_assoc (line_text k) (text_of ks) a) ∙ e ∙ append_assoc (line_text l) (text_of ls) b } in
    let o = one_line _ k l (text_of ks ++ a) (text_of ls ++ b) f g in
    elim (compare_lines ks ls a b p.1 q.1 o.1) [
      | inl r ↦ inl (record { more = r.more; lines = ap (λ x. l ∷ x) r.lines ∙ ap (λ x. x ∷ (ks ++ r.more)) (sym o.0); rest = r.rest })
      | inr r ↦ inr (record { more = r.more; lines = ap (λ x. k ∷ x) r.lines ∙ ap (λ x. x ∷ (ls ++ r.more)) o.0; rest = r.rest })
    ]

-- no bytes are no lines
pub no_lines : (ls : List Line) (b : List ℕ) → AllByRecursion IsLine ls → [] ≡ text_of ls ++ b → (ls ≡ []) × (b ≡ [])
no_lines [] b p e = (refl, sym e)
no_lines (l ∷ ls) b p e =
    absurd (omega (arith, line_some l p.0, ap (λ (x : List ℕ). length x) e, length-append (line_text l ++ text_of ls) b, length-append (line_text l) (text_of ls)))

pub text-append : (ks ls : List Line) → text_of (ks ++ ls) ≡ text_of ks ++ text_of ls
text-append [] ls = refl
text-append (k ∷ ks) ls = ap (λ x. line_text k ++ x) (text-append ks ls) ∙ sym (append_assoc (line_text k) (text_of ks) (text_of ls))

-- the text with one more line
pub text_more : (ls : List Line) (l : Line) (rest : List ℕ) → text_of (ls ++ l ∷ []) ++ rest ≡ text_of ls ++ (line_text l ++ rest)
text_more ls l rest =
    ap (λ x. x ++ rest) (text-append ls (l ∷ []))
    ∙ append_assoc (text_of ls) (text_of (l ∷ [])) rest
    ∙ ap (λ x. text_of ls ++ x) (append_assoc (line_text l) [] rest)
