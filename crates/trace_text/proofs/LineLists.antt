-- Lists of lines: those of costs and of events, and what two equal lists have in common.
use Rattle.std.proofs.Common.{◌≡◌, ℕ, ◌+◌, ◌<◌, List, [], ◌∷◌, ◌++◌, length, map, refl, sym, ap, ◌∙◌, arith}
use Rattle.std.specs.List.{AllByRecursion}
use Rattle.ledger_history.specs.declared.event.Event.{Event}
use Rattle.trace_line.specs.declared.line.Line.{Line}
use Rattle.trace_line.specs.declared.line.Line.TheVariants.{Title, Operations, Workers, Budget, Cost, Step, End}
use Rattle.trace_text.specs.Traces.{cost_lines}

-- ---- all of a list

pub all_front : {A : Type 0} (P : A → Type 0) (xs ys : List A) → AllByRecursion P (xs ++ ys) → AllByRecursion P xs
all_front P [] ys p = tt
all_front P (x ∷ xs) ys p = (p.0, all_front P xs ys p.1)

pub all_back : {A : Type 0} (P : A → Type 0) (xs ys : List A) → AllByRecursion P (xs ++ ys) → AllByRecursion P ys
all_back P [] ys p = p
all_back P (x ∷ xs) ys p = all_back P xs ys p.1

-- ---- the header

pub same_header : (m v a n w b : ℕ) (xs ys : List Line)
    → (Title ∷ Operations m ∷ Workers v ∷ Budget a ∷ xs) ≡ (Title ∷ Operations n ∷ Workers w ∷ Budget b ∷ ys) → (m ≡ n) × (v ≡ w) × (a ≡ b) × (xs ≡ ys)
same_header m v a n w b xs ys e = ((cc), (cc), (cc), (cc))

-- ---- costs

pub cost_lines-append : (i : ℕ) (a b : List ℕ) → cost_lines i (a ++ b) ≡ cost_lines i a ++ cost_lines (i + length a) b
cost_lines-append i [] b = ap (λ n. cost_lines n b) (omega arith)
cost_lines-append i (c ∷ a) b =
    let e : i + 1 + length a ≡ i + length (c ∷ a) = omega arith in
    ap (λ x. Cost i c ∷ x) (cost_lines-append (i + 1) a b ∙ ap (λ n. cost_lines (i + 1) a ++ cost_lines n b) e)

pub length-cost_lines : (i : ℕ) (a : List ℕ) → length (cost_lines i a) ≡ length a
length-cost_lines i [] = refl
length-cost_lines i (c ∷ a) = omega (arith, length-cost_lines (i + 1) a)

-- behind fewer costs than there are stands the next cost
pub cost_next : (i : ℕ) (a b : List ℕ) (r more : List Line) (l : Line) → cost_lines i a ++ r ≡ cost_lines i b ++ l ∷ more → length b < length a → (c : ℕ) × (l ≡ Cost (i + length b) c)
cost_next i [] b r more l e h = absurd (omega arith)
cost_next i (c ∷ a) [] r more l e h =
    let f : Cost i c ≡ l = cc in
    let g : i ≡ i + length {A = ℕ} [] = omega arith in
    (c, sym f ∙ ap (λ n. Cost n c) g)
cost_next i (c ∷ a) (d ∷ b) r more l e h =
    let f : cost_lines (i + 1) a ++ r ≡ cost_lines (i + 1) b ++ l ∷ more = cc in
    let q = cost_next (i + 1) a b r more l f (omega arith) in
    let g : i + 1 + length b ≡ i + length (d ∷ b) = omega arith in
    (q.0, q.1 ∙ ap (λ n. Cost n q.0) g)

pub same_costs : (i : ℕ) (a b : List ℕ) (r s : List Line) → length a ≡ length b → cost_lines i a ++ r ≡ cost_lines i b ++ s → (a ≡ b) × (r ≡ s)
same_costs i [] [] r s h e = (refl, e)
same_costs i [] (d ∷ b) r s h e = absurd (omega arith)
same_costs i (c ∷ a) [] r s h e = absurd (omega arith)
same_costs i (c ∷ a) (d ∷ b) r s h e =
    let f : cost_lines (i + 1) a ++ r ≡ cost_lines (i + 1) b ++ s = cc in
    let g : c ≡ d = cc in
    let q = same_costs (i + 1) a b r s (omega arith) f in
    (ap (λ x. x ∷ a) g ∙ ap (λ xs. d ∷ xs) q.0, q.1)

-- ---- events

pub map_step-append : (a b : List Event) → map Step (a ++ b) ≡ map Step a ++ map Step b
map_step-append [] b = refl
map_step-append (e ∷ a) b = ap (λ x. Step e ∷ x) (map_step-append a b)

pub same_events : (a b : List Event) → map Step a ++ (End ∷ []) ≡ map Step b ++ (End ∷ []) → a ≡ b
same_events [] [] e = refl
same_events [] (f ∷ b) e = absurd (not_step f (let x : End ≡ Step f = cc in x))
  where
    not_step : (f : Event) → End ≡ Step f → ⊥
    not_step f x = cc
same_events (f ∷ a) [] e = absurd (not_end f (let x : Step f ≡ End = cc in x))
  where
    not_end : (f : Event) → Step f ≡ End → ⊥
    not_end f x = cc
same_events (f ∷ a) (g ∷ b) e =
    let h : f ≡ g = cc in
    let t : map Step a ++ (End ∷ []) ≡ map Step b ++ (End ∷ []) = cc in
    ap (λ x. x ∷ a) h ∙ ap (λ xs. g ∷ xs) (same_events a b t)
