-- A line that may go on from a place is of the form for it; and only behind the end is a trace whole.
use Rattle.std.proofs.Common.{◌≡◌, ℕ, ◌+◌, true, eqb, List, [], ◌∷◌, ◌++◌, length, map, refl, sym, ap, subst, ◌∙◌, append_assoc, length-append, arith}
use Rattle.std.proofs.lemmas.Bool.{eq-eqb}
use Rattle.ledger_history.specs.declared.event.Event.{Event}
use Rattle.trace_line.specs.declared.line.Line.{Line}
use Rattle.trace_line.specs.declared.line.Line.TheVariants as lines
use Rattle.trace_text.specs.declared.place.LinePlace.{LinePlace}
use Rattle.trace_text.specs.declared.place.LinePlace.TheVariants.{Title, Operations, Workers, Budget, Costs, Events, Nothing}
use Rattle.trace_text.specs.Traces.{Told, IsTrace, cost_lines, lines_of}
use Rattle.trace_text.specs.Fronts.{IsFront}
use Rattle.trace_text.specs.Places.{lines_before, IsReadTo}
use Rattle.trace_text.specs.Working.Places.{admits}
use Rattle.trace_text.proofs.LineLists.{same_header, cost_next, same_costs, length-cost_lines}

end_is_no_step : (f : Event) → lines.End ≡ lines.Step f → ⊥
end_is_no_step f x = cc

-- ---- behind events

step_next : (a b : List Event) (l : Line) (more : List Line) (n : ℕ) → map lines.Step a ++ (lines.End ∷ []) ≡ map lines.Step b ++ l ∷ more → admits Events n l ≡ true
step_next [] [] l more n e = let f : lines.End ≡ l = cc in subst (λ x. admits Events n x ≡ true) f refl
step_next (g ∷ a) [] l more n e = let f : lines.Step g ≡ l = cc in subst (λ x. admits Events n x ≡ true) f refl
step_next [] (g ∷ b) l more n e = absurd (end_is_no_step g (let f : lines.End ≡ lines.Step g = cc in f))
step_next (g ∷ a) (k ∷ b) l more n e = step_next a b l more n (let f : map lines.Step a ++ (lines.End ∷ []) ≡ map lines.Step b ++ l ∷ more = cc in f)

nothing_next : (a b : List Event) (l : Line) (more : List Line) → map lines.Step a ++ (lines.End ∷ []) ≡ map lines.Step b ++ (lines.End ∷ l ∷ more) → ⊥
nothing_next [] [] l more e = let f : [] ≡ l ∷ more = cc in cc
nothing_next (g ∷ a) [] l more e = end_is_no_step g (let f : lines.End ≡ lines.Step g = cc in f)
nothing_next [] (g ∷ b) l more e = end_is_no_step g (let f : lines.End ≡ lines.Step g = cc in f)
nothing_next (g ∷ a) (k ∷ b) l more e = nothing_next a b l more (let f : map lines.Step a ++ (lines.End ∷ []) ≡ map lines.Step b ++ (lines.End ∷ l ∷ more) = cc in f)

no_end : (a b : List Event) → map lines.Step a ++ (lines.End ∷ []) ≡ map lines.Step b → ⊥
no_end [] [] e = cc
no_end (g ∷ a) [] e = cc
no_end [] (g ∷ b) e = end_is_no_step g (let f : lines.End ≡ lines.Step g = cc in f)
no_end (g ∷ a) (k ∷ b) e = no_end a b (let f : map lines.Step a ++ (lines.End ∷ []) ≡ map lines.Step b = cc in f)

-- ---- the next line

regroup : (xs ys zs more : List Line) → ((xs ++ ys) ++ zs) ++ more ≡ xs ++ (ys ++ (zs ++ more))
regroup xs ys zs more = simp append_assoc

regroup_end : (xs ys zs us more : List Line) → ((xs ++ (ys ++ us)) ++ zs) ++ more ≡ xs ++ (ys ++ (us ++ (zs ++ more)))
regroup_end xs ys zs us more = simp append_assoc

pub next_is_admitted : (place : LinePlace) (t : Told) (l : Line) → IsReadTo place t → IsFront (lines_before place t ++ l ∷ []) → admits place (length t.costs) l ≡ true
next_is_admitted Title t l r f =
    let e : lines_of f.of ≡ l ∷ f.more = f.parts in
    let h : lines.Title ≡ l = cc in
    subst (λ x. admits Title (length t.costs) x ≡ true) h refl
next_is_admitted Operations t l r f =
    let e : lines_of f.of ≡ lines.Title ∷ l ∷ f.more = f.parts in
    let h : lines.Operations f.of.operations ≡ l = cc in
    subst (λ x. admits Operations (length t.costs) x ≡ true) h refl
next_is_admitted Workers t l r f =
    let e : lines_of f.of ≡ lines.Title ∷ lines.Operations t.operations ∷ l ∷ f.more = f.parts in
    let h : lines.Workers f.of.workers ≡ l = cc in
    subst (λ x. admits Workers (length t.costs) x ≡ true) h refl
next_is_admitted Budget t l r f =
    let e : lines_of f.of ≡ lines.Title ∷ lines.Operations t.operations ∷ lines.Workers t.workers ∷ l ∷ f.more = f.parts in
    let h : lines.Budget f.of.budget ≡ l = cc in
    subst (λ x. admits Budget (length t.costs) x ≡ true) h refl
next_is_admitted Costs t l r f =
    let u : Told = f.of in
    let e = same_header u.operations u.workers u.budget t.operations t.workers t.budget _ ((cost_lines 0 t.costs ++ l ∷ []) ++ f.more) f.parts in
    let tail : cost_lines 0 u.costs ++ (map lines.Step u.events ++ (lines.End ∷ [])) ≡ cost_lines 0 t.costs ++ l ∷ f.more = e.3 ∙ append_assoc (cost_lines 0 t.costs) (l ∷ []) f.more in
    let q = cost_next 0 u.costs t.costs _ f.more l tail (omega (arith, f.trace.count, e.0, r.counts.1)) in
    let same : eqb (0 + length t.costs) (length t.costs) ≡ true = eq-eqb (0 + length t.costs) (length t.costs) (omega arith) in
    subst (λ x. admits Costs (length t.costs) x ≡ true) (sym q.1) same
next_is_admitted Events t l r f =
    let u : Told = f.of in
    let e = same_header u.operations u.workers u.budget t.operations t.workers t.budget _ (((cost_lines 0 t.costs ++ map lines.Step t.events) ++ l ∷ []) ++ f.more) f.parts in
    let s = same_costs 0 u.costs t.costs _ _ (omega (arith, f.trace.count, e.0, r.counts)) (e.3 ∙ regroup (cost_lines 0 t.costs) (map lines.Step t.events) (l ∷ []) f.more) in
    step_next u.events t.events l f.more (length t.costs) s.1
next_is_admitted Nothing t l r f =
    let u : Told = f.of in
    let e = same_header u.operations u.workers u.budget t.operations t.workers t.budget _ (((cost_lines 0 t.costs ++ (map lines.Step t.events ++ (lines.End ∷ []))) ++ l ∷ []) ++ f.more) f.parts in
    let s = same_costs 0 u.costs t.costs _ _ (omega (arith, f.trace.count, e.0, r.counts)) (e.3 ∙ regroup_end (cost_lines 0 t.costs) (map lines.Step t.events) (l ∷ []) (lines.End ∷ []) f.more) in
    absurd (nothing_next u.events t.events l f.more s.1)

-- ---- the whole

pub whole_at_nothing : (place : LinePlace) (t u : Told) → IsReadTo place t → IsTrace u → lines_of u ≡ lines_before place t → place ≡ Nothing
whole_at_nothing Title t u r h e = absurd cc
whole_at_nothing Operations t u r h e = absurd cc
whole_at_nothing Workers t u r h e = absurd cc
whole_at_nothing Budget t u r h e = absurd cc
whole_at_nothing Costs t u r h e =
    let s = same_header u.operations u.workers u.budget t.operations t.workers t.budget _ (cost_lines 0 t.costs) e in
    let n : length (cost_lines 0 u.costs ++ (map lines.Step u.events ++ (lines.End ∷ []))) ≡ length (cost_lines 0 t.costs) = ap (λ (x : List Line). length x) s.3 in
    absurd (omega (arith, n, length-append (cost_lines 0 u.costs) (map lines.Step u.events ++ (lines.End ∷ [])), length-cost_lines 0 u.costs, length-cost_lines 0 t.costs, h.count, s.0, r.counts.1))
whole_at_nothing Events t u r h e =
    let s = same_header u.operations u.workers u.budget t.operations t.workers t.budget _ (cost_lines 0 t.costs ++ map lines.Step t.events) e in
    let q = same_costs 0 u.costs t.costs _ _ (omega (arith, h.count, s.0, r.counts)) s.3 in
    absurd (no_end u.events t.events q.1)
whole_at_nothing Nothing t u r h e = refl
