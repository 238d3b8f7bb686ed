-- How far a text goes: one line more, the end, and that there is one answer.
use Rattle.std.proofs.Common.{◌≡◌, ℕ, ◌+◌, ◌<◌, inl, inr, ◌↔◌, IsTrue, Bool, true, false, List, [], ◌∷◌, ◌++◌, length, refl, sym, ap, subst, ◌∙◌, append_assoc, append-nil, length-append, arith}
use Rattle.std.specs.List.{AllByRecursion}
use mathlib.Core.Bool.{true≢false}
use Rattle.trace_line.proofs.LineLaws.{one_line}
use Rattle.trace_line.specs.declared.line.Line.{Line}
use Rattle.trace_line.specs.Lines.{line_text, IsLine, Begins}
use Rattle.trace_text.specs.declared.place.LinePlace.{LinePlace}
use Rattle.trace_text.specs.declared.place.LinePlace.TheVariants.{Nothing}
use Rattle.trace_text.specs.Traces.{Told, told, IsTrace, Spells, lines_of, text_of}
use Rattle.trace_text.specs.Fronts.{IsFront, Reaches, EndsAt}
use Rattle.trace_text.specs.Places.{lines_before, IsReadTo}
use Rattle.trace_text.specs.declared.front.Front.{Front}
use Rattle.trace_text.specs.FrontOf.{IsFrontOf}
use Rattle.trace_text.specs.Refusals.{IsSyntaxFault}
use Rattle.trace_text.specs.Working.Places.{admits, with_line, place_behind, IsReading}
use Rattle.trace_text.proofs.LineLists.{all_back, same_header, same_costs, same_events}
use Rattle.trace_text.proofs.Texts.{line_some, all_lines, front_lines, compare_lines, no_lines, text_more}
use Rattle.trace_text.proofs.Filled.{front_of_place}
use Rattle.trace_text.proofs.Steps.{follows}
use Rattle.trace_text.proofs.Stuck.{next_is_admitted, whole_at_nothing}

-- ---- reading

pub reads_on : (text : List ℕ) (place : LinePlace) (t : Told) (rest : List ℕ) (count : ℕ) (l : Line) (behind : List ℕ)
    → IsReading text place t rest count → Begins rest l behind → admits place (length t.costs) l ≡ true
    → IsReading text (place_behind place l (with_line t l)) (with_line t l) behind (count + 1)
reads_on text place t rest count l behind r b a =
    let f = follows place t l r.read b.line a in
    let some : 0 < length (line_text l) = line_some l b.line in
    let split : length rest ≡ length (line_text l) + length behind = ap (λ (x : List ℕ). length x) b.parts ∙ length-append (line_text l) behind in
    record {
      read = f.read;
      parts = r.parts ∙ ap (λ x. text_of (lines_before place t) ++ x) b.parts ∙ sym (text_more (lines_before place t) l behind) ∙ ap (λ x. text_of x ++ behind) (sym f.lines);
      lines = omega (arith, r.lines, ap (λ (x : List Line). length x) f.lines, length-append (lines_before place t) (l ∷ []));
      few = omega (arith, r.few, some, split);
    }

pub ends_here : (place : LinePlace) (t : Told) (rest : List ℕ) → IsReadTo place t
    → ((l : Line) (behind : List ℕ) → Begins rest l behind → admits place (length t.costs) l ≡ true → ⊥) → EndsAt (lines_before place t) rest
ends_here place t rest r none l behind b f = none l behind b (next_is_admitted place t l r f)

-- the line that begins a text isn't admitted, so none is
pub not_admitted : (place : LinePlace) (count : ℕ) (text : List ℕ) (k l : Line) (a b : List ℕ) → Begins text k a → admits place count k ≡ false → Begins text l b → admits place count l ≡ true → ⊥
not_admitted place count text k l a b p n q y =
    true≢false (sym y ∙ ap (λ x. admits place count x) (sym (one_line text k l a b p q).0) ∙ n)

-- ---- one answer

-- lines that go on behind these begin with one
longer_front : (ls more : List Line) (l : Line) (ks : List Line) → ks ≡ ls ++ l ∷ more → IsFront ks → IsFront (ls ++ l ∷ [])
longer_front ls more l ks e f =
    record { of = f.of; trace = f.trace; more = more ++ f.more; parts = f.parts ∙ ap (λ x. x ++ f.more) e ∙ grouped }
  where
    grouped : (ls ++ l ∷ more) ++ f.more ≡ (ls ++ l ∷ []) ++ (more ++ f.more)
    grouped = append_assoc ls (l ∷ more) f.more ∙ sym (append_assoc ls (l ∷ []) (more ++ f.more))

-- behind the end of what is read nothing goes on
pub stops : (ls : List Line) (a : List ℕ) (more : List Line) (b : List ℕ) (ks : List Line) → EndsAt ls a → IsFront ks → ks ≡ ls ++ more → a ≡ text_of more ++ b → more ≡ []
stops ls a [] b ks h f e p = refl
stops ls a (l ∷ more) b ks h f e p =
    let all : AllByRecursion IsLine (l ∷ more) = all_back IsLine ls (l ∷ more) (subst (AllByRecursion IsLine) e (front_lines ks f)) in
    absurd (h l (text_of more ++ b) (record { line = all.0; parts = p ∙ append_assoc (line_text l) (text_of more) b }) (longer_front ls more l ks e f))

nothing_more : (ls more : List Line) → more ≡ [] → ls ++ more ≡ ls
nothing_more ls more e = ap (λ x. ls ++ x) e ∙ append-nil ls

-- two ways as far as the text goes are one
pub same_way : (text : List ℕ) (ks ls : List Line) (a b : List ℕ) → Reaches text ks a → EndsAt ks a → Reaches text ls b → EndsAt ls b → ks ≡ ls
same_way text ks ls a b r h s g =
    elim (compare_lines ks ls a b (front_lines ks r.front) (front_lines ls s.front) (sym r.parts ∙ s.parts)) [
      | inl o ↦ sym (o.lines ∙ nothing_more ks o.more (stops ks a o.more b ls h s.front o.lines o.rest))
      | inr o ↦ o.lines ∙ nothing_more ls o.more (stops ls b o.more a ks g r.front o.lines o.rest)
    ]

pub one_fault : (text : List ℕ) (j k : ℕ) → IsSyntaxFault text j → IsSyntaxFault text k → j ≡ k
one_fault text j k p q =
    let e = same_way text p.before q.before p.rest q.rest p.reached p.ends q.reached q.ends in
    omega (arith, p.at, q.at, ap (λ (x : List Line). length x) e)

-- ---- the text of a trace

pub front_of_whole : (t : Told) → IsTrace t → IsFront (lines_of t)
front_of_whole t h = record { of = t; trace = h; more = []; parts = sym (append-nil (lines_of t)) }

pub reaches_end : (text : List ℕ) (t : Told) → Spells text t → Reaches text (lines_of t) []
reaches_end text t s = record { front = front_of_whole t s.trace; parts = s.same ∙ sym (append-nil (text_of (lines_of t))) }

-- where the text of a trace goes as far as it can, it is read to its end
pub spelled_to_end : (text : List ℕ) (place : LinePlace) (t u : Told) (rest : List ℕ) → IsReadTo place t → Reaches text (lines_before place t) rest → EndsAt (lines_before place t) rest → Spells text u
    → (place ≡ Nothing) × (rest ≡ [])
spelled_to_end text place t u rest r s h p =
    let w = reaches_end text u p in
    elim (compare_lines (lines_before place t) (lines_of u) rest [] (front_lines _ s.front) (all_lines u p.trace) (sym s.parts ∙ w.parts)) [
      | inl o ↦
          let n : o.more ≡ [] = stops (lines_before place t) rest o.more [] (lines_of u) h w.front o.lines o.rest in
          (whole_at_nothing place t u r p.trace (o.lines ∙ nothing_more _ o.more n), o.rest ∙ ap (λ x. text_of x ++ []) n)
      | inr o ↦
          let all : AllByRecursion IsLine o.more = all_back IsLine (lines_of u) o.more (subst (AllByRecursion IsLine) o.lines (front_lines _ s.front)) in
          let n = no_lines o.more rest all o.rest in
          (whole_at_nothing place t u r p.trace (sym (o.lines ∙ nothing_more _ o.more n.0)), n.1)
    ]

pub read_whole : (text : List ℕ) (t : Told) (rest : List ℕ) → IsReadTo Nothing t → Reaches text (lines_before Nothing t) rest → rest ≡ [] → Spells text t
read_whole text t rest r s e =
    record {
      trace = record { operations = r.operations; workers = r.workers; budget = r.budget; count = r.counts; costs = r.costs; events = r.events };
      same = s.parts ∙ ap (λ x. text_of (lines_of t) ++ x) e ∙ append-nil (text_of (lines_of t));
    }

same_told : (t u : Told) → IsTrace t → IsTrace u → lines_of t ≡ lines_of u → t ≡ u
same_told t u p q e =
    let h = same_header t.operations t.workers t.budget u.operations u.workers u.budget _ _ e in
    let c = same_costs 0 t.costs u.costs _ _ (omega (arith, p.count, q.count, h.0)) h.3 in
    let v : t.events ≡ u.events = same_events t.events u.events c.1 in
    let A : Told = record { operations = u.operations; workers = t.workers; budget = t.budget; costs = t.costs; events = t.events } in
    let B : Told = record { operations = u.operations; workers = u.workers; budget = t.budget; costs = t.costs; events = t.events } in
    let C : Told = record { operations = u.operations; workers = u.workers; budget = u.budget; costs = t.costs; events = t.events } in
    let D : Told = record { operations = u.operations; workers = u.workers; budget = u.budget; costs = u.costs; events = t.events } in
    let a : t ≡ A = ap (λ (x : ℕ). let z : Told = record { operations = x; workers = t.workers; budget = t.budget; costs = t.costs; events = t.events } in z) h.0 in
    let b : A ≡ B = ap (λ (x : ℕ). let z : Told = record { operations = u.operations; workers = x; budget = t.budget; costs = t.costs; events = t.events } in z) h.1 in
    let d : B ≡ C = ap (λ (x : ℕ). let z : Told = record { operations = u.operations; workers = u.workers; budget = x; costs = t.costs; events = t.events } in z) h.2 in
    let f : C ≡ D = ap (λ (x : List ℕ). let z : Told = record { operations = u.operations; workers = u.workers; budget = u.budget; costs = x; events = t.events } in z) c.0 in
    let g : D ≡ u = ap (λ x. let z : Told = record { operations = u.operations; workers = u.workers; budget = u.budget; costs = u.costs; events = x } in z) v in
    a ∙ b ∙ d ∙ f ∙ g

pub one_trace : (text : List ℕ) (t u : Told) → Spells text t → Spells text u → t ≡ u
one_trace text t u p q =
    let v = reaches_end text t p in
    let w = reaches_end text u q in
    same_told t u p.trace q.trace (elim (compare_lines (lines_of t) (lines_of u) [] [] (all_lines t p.trace) (all_lines u q.trace) (sym v.parts ∙ w.parts)) [
      | inl o ↦ sym (o.lines ∙ nothing_more _ o.more (no_lines o.more [] (all_back IsLine (lines_of t) o.more (subst (AllByRecursion IsLine) o.lines (all_lines u q.trace))) o.rest).0)
      | inr o ↦ o.lines ∙ nothing_more _ o.more (no_lines o.more [] (all_back IsLine (lines_of u) o.more (subst (AllByRecursion IsLine) o.lines (all_lines t p.trace))) o.rest).0
    ])

-- ---- what the code has

pub reads_kept : (text : List ℕ) (place : LinePlace) (t : Told) (rest : List ℕ) (count : ℕ) (l : Line) (behind : List ℕ) (n : ℕ) (u : Told) (next : LinePlace)
    → IsReading text place t rest count → Begins rest l behind → n ≡ length t.costs → admits place n l ≡ true → u ≡ with_line t l → next ≡ place_behind place l u
    → IsReading text next u behind (count + 1)
reads_kept text place t rest count l behind n u next r b e a k p =
    let q : next ≡ place_behind place l (with_line t l) = p ∙ ap (place_behind place l) k in
    let s = reads_on text place t rest count l behind r b (ap (λ m. admits place m l) (sym e) ∙ a) in
    subst (λ x. IsReading text x u behind (count + 1)) (sym q) (subst (λ x. IsReading text (place_behind place l (with_line t l)) x behind (count + 1)) (sym k) s)

pub shorter : (rest : List ℕ) (l : Line) (behind : List ℕ) → Begins rest l behind → length behind < length rest
shorter rest l behind b = omega (arith, line_some l b.line, ap (λ (x : List ℕ). length x) b.parts, length-append (line_text l) behind)

pub reads_to : (text : List ℕ) (f : Front) (n : ℕ) → IsReading text f.place (told f.trace) f.rest.now f.lines → n ≡ length f.trace.costs.items
    → ((l : Line) (behind : List ℕ) → Begins f.rest.now l behind → admits f.place n l ≡ true → ⊥) → IsFrontOf text f
reads_to text f n r e none =
    record {
      read = r.read;
      reached = record { front = front_of_place f.place (told f.trace) r.read; parts = r.parts };
      count = r.lines;
      ends = ends_here f.place (told f.trace) f.rest.now r.read (λ l behind b a. none l behind b (ap (λ m. admits f.place m l) e ∙ a));
    }

pub fault_here : (text : List ℕ) (f : Front) (b : Bool) → IsFrontOf text f → IsTrue b ↔ ((f.place ≡ Nothing) × (f.rest.now ≡ [])) → b ≡ false → IsSyntaxFault text (f.lines + 1)
fault_here text f b r w n =
    record {
      before = lines_before f.place (told f.trace);
      rest = f.rest.now;
      reached = r.reached;
      at = ap (λ (x : ℕ). x + 1) r.count;
      ends = r.ends;
      unspelled = λ u s. let q = w.1 (spelled_to_end text f.place (told f.trace) u f.rest.now r.read r.reached r.ends s) in true≢false (sym q ∙ n);
    }

pub whole_here : (text : List ℕ) (f : Front) → IsFrontOf text f → f.place ≡ Nothing → f.rest.now ≡ [] → Spells text (told f.trace)
whole_here text f r p e =
    read_whole text (told f.trace) f.rest.now (subst (λ x. IsReadTo x (told f.trace)) p r.read) (subst (λ x. Reaches text (lines_before x (told f.trace)) f.rest.now) p r.reached) e
