-- Every text is read as far as it goes: it is that of a trace, or at fault at a line.
use Rattle.std.proofs.Common.{◌≡◌, ◌⊎◌, ℕ, zero, suc, ◌+◌, ◌<◌, ◌≤◌, ◌^◌, true, List, [], ◌∷◌, length, Option, None, Some, inl, inr, refl, sym, ◌∙◌, subst, arith, lit<}
use Rattle.std.proofs.lemmas.Bool.{cases_Bool}
use Rattle.trace_line.specs.declared.line.Line.{Line}
use Rattle.trace_line.specs.Lines.{Begins}
use Rattle.trace_line.specs.Working.Reading.{line_at}
use Rattle.trace_line.proofs.LineLaws.{line_takes, begun_again}
use Rattle.trace_text.specs.declared.place.LinePlace.{LinePlace}
use Rattle.trace_text.specs.declared.place.LinePlace.TheVariants.{Title, Operations, Workers, Budget, Costs, Events, Nothing}
use Rattle.trace_text.specs.Traces.{Told, Spells}
use Rattle.trace_text.specs.Fronts.{Reaches, EndsAt}
use Rattle.trace_text.specs.Places.{lines_before, IsReadTo}
use Rattle.trace_text.specs.Refusals.{IsSyntaxFault}
use Rattle.trace_text.specs.Working.Places.{admits, with_line, place_behind, IsReading}
use Rattle.trace_text.proofs.Filled.{front_of_place}
use Rattle.trace_text.proofs.FrontLaws.{reads_on, ends_here, not_admitted, shorter, spelled_to_end, read_whole}

-- the first lines of the text, behind which none goes on
record IsRead (text : List ℕ) : Type 0 where
  place : LinePlace
  told : Told
  rest : List ℕ
  count : ℕ
  reading : IsReading text place told rest count
  ends : EndsAt (lines_before place told) rest

line_is : {X : Type 0} (o : Option X) (x : X) → o ≡ None → o ≡ Some x → ⊥
line_is o x p q = let e : None ≡ Some x = sym p ∙ q in cc

-- it goes on with the line that stands there, or ends
reads_or_ends : (text : List ℕ) (place : LinePlace) (t : Told) (rest : List ℕ) (count : ℕ) → IsReading text place t rest count
    → ((l : Line) (behind : List ℕ) → Begins rest l behind → admits place (length t.costs) l ≡ true → IsRead text) → IsRead text
reads_or_ends text place t rest count r go = by_line (line_at rest) refl
  where
    stop : ((l : Line) (behind : List ℕ) → Begins rest l behind → admits place (length t.costs) l ≡ true → ⊥) → IsRead text
    stop none = record { place = place; told = t; rest = rest; count = count; reading = r; ends = ends_here place t rest r.read none }

    by_line : (o : Option (Line × List ℕ)) → line_at rest ≡ o → IsRead text
    by_line None e = stop (λ l behind q a. line_is (line_at rest) (l, behind) e (begun_again rest l behind q))
    by_line (Some (l, behind)) e =
        let q = line_takes rest l behind e in
        elim (cases_Bool (admits place (length t.costs) l)) [
          | inl a ↦ go l behind q a
          | inr a ↦ stop (λ k more p y. not_admitted place (length t.costs) rest l k behind more q a p y)
        ]

reads_to_end : (most : ℕ) (text : List ℕ) (place : LinePlace) (t : Told) (rest : List ℕ) (count : ℕ) → length rest ≤ most → IsReading text place t rest count → IsRead text
reads_to_end zero text place t rest count b r =
    reads_or_ends text place t rest count r (λ l behind q a. absurd (let s = shorter rest l behind q in omega arith))
reads_to_end (suc n) text place t rest count b r =
    reads_or_ends text place t rest count r (λ l behind q a.
    let s = shorter rest l behind q in
    reads_to_end n text (place_behind place l (with_line t l)) (with_line t l) behind (count + 1) (omega arith) (reads_on text place t rest count l behind r q a))

reads_first : (text : List ℕ) → IsReading text Title (record { operations = 0; workers = 0; budget = 0; costs = []; events = [] }) text 0
reads_first text =
    record {
      read = record { operations = lit< tt; workers = lit< tt; budget = lit< tt; costs = tt; events = tt; counts = (refl, refl) };
      parts = refl;
      lines = refl;
      few = omega arith;
    }

-- whether all was read
whole_or_not : (place : LinePlace) (rest : List ℕ) → ((place ≡ Nothing) × (rest ≡ [])) ⊎ ((place ≡ Nothing) × (rest ≡ []) → ⊥)
whole_or_not Nothing [] = inl (refl, refl)
whole_or_not Nothing (x ∷ xs) = inr (λ q. let e : x ∷ xs ≡ [] = q.1 in cc)
whole_or_not Title rest = inr (λ q. let e : Title ≡ Nothing = q.0 in cc)
whole_or_not Operations rest = inr (λ q. let e : Operations ≡ Nothing = q.0 in cc)
whole_or_not Workers rest = inr (λ q. let e : Workers ≡ Nothing = q.0 in cc)
whole_or_not Budget rest = inr (λ q. let e : Budget ≡ Nothing = q.0 in cc)
whole_or_not Costs rest = inr (λ q. let e : Costs ≡ Nothing = q.0 in cc)
whole_or_not Events rest = inr (λ q. let e : Events ≡ Nothing = q.0 in cc)

pub trace_or_fault : (text : List ℕ) → ((t : Told) × Spells text t) ⊎ ((line : ℕ) × IsSyntaxFault text line)
trace_or_fault text =
    let r = reads_to_end (length text) text Title (record { operations = 0; workers = 0; budget = 0; costs = []; events = [] }) text 0 (omega arith) (reads_first text) in
    let reached : Reaches text (lines_before r.place r.told) r.rest = record { front = front_of_place r.place r.told r.reading.read; parts = r.reading.parts } in
    elim (whole_or_not r.place r.rest) [
      | inl w ↦ inl (r.told, read_whole text r.told r.rest (subst (λ p. IsReadTo p r.told) w.0 r.reading.read) (subst (λ p. Reaches text (lines_before p r.told) r.rest) w.0 reached) w.1)
      | inr n ↦ inr (
        length (lines_before r.place r.told) + 1,
        record {
          before = lines_before r.place r.told;
          rest = r.rest;
          reached = reached;
          at = refl;
          ends = r.ends;
          unspelled = λ u s. n (spelled_to_end text r.place r.told u r.rest r.reading.read reached r.ends s);
        },
      )
    ]
