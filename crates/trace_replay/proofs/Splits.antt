-- Where a line stands in a list of lines: in the header, among the costs, among the events, or behind them.
use Rattle.std.proofs.Common.{◌≡◌, ℕ, ◌+◌, ◌⊎◌, inl, inr, List, [], ◌∷◌, ◌++◌, map, refl, ap, ◌∙◌}
use Rattle.ledger_history.specs.declared.event.Event.{Event}
use Rattle.trace_line.specs.declared.line.Line.{Line}
use Rattle.trace_line.specs.declared.line.Line.TheVariants as lines
use Rattle.trace_text.specs.Traces.{cost_lines}

-- the line stands behind these
pub record Later (first rest before : List Line) (here : Line) (after : List Line) : Type 0 where
  pub more : List Line
  pub is : before ≡ first ++ more
  pub parts : rest ≡ more ++ here ∷ after

-- the line is the first
pub record AtHead (x : Line) (before : List Line) (here : Line) : Type 0 where
  pub none : before ≡ []
  pub same : here ≡ x

pub no_place : (before : List Line) (here : Line) (after : List Line) → [] ≡ before ++ here ∷ after → ⊥
no_place [] here after e = cc
no_place (x ∷ before) here after e = cc

pub peel : (x : Line) (xs before : List Line) (here : Line) (after : List Line) → x ∷ xs ≡ before ++ here ∷ after → AtHead x before here ⊎ Later (x ∷ []) xs before here after
peel x xs [] here after e = inl (record { none = refl; same = let h : here ≡ x = cc in h })
peel x xs (y ∷ before) here after e =
    let h : y ≡ x = cc in
    let t : xs ≡ before ++ here ∷ after = cc in
    inr (record { more = before; is = ap (λ z. z ∷ before) h; parts = t })

-- the line is one of costs
pub record AtCost (here : Line) : Type 0 where
  pub op : ℕ
  pub cost : ℕ
  pub same : here ≡ lines.Cost op cost

pub peel_costs : (i : ℕ) (cs : List ℕ) (tail before : List Line) (here : Line) (after : List Line) → cost_lines i cs ++ tail ≡ before ++ here ∷ after
    → AtCost here ⊎ Later (cost_lines i cs) tail before here after
peel_costs i [] tail before here after e = inr (record { more = before; is = refl; parts = e })
peel_costs i (c ∷ cs) tail [] here after e = inl (record { op = i; cost = c; same = let h : here ≡ lines.Cost i c = cc in h })
peel_costs i (c ∷ cs) tail (y ∷ before) here after e =
    let h : y ≡ lines.Cost i c = cc in
    let t : cost_lines (i + 1) cs ++ tail ≡ before ++ here ∷ after = cc in
    elim (peel_costs (i + 1) cs tail before here after t) [
      | inl a ↦ inl a
      | inr l ↦ inr (record { more = l.more; is = ap (λ z. z ∷ before) h ∙ ap (λ z. lines.Cost i c ∷ z) l.is; parts = l.parts })
    ]

-- the line is one of events, behind those before it
pub record AtStep (es : List Event) (before : List Line) (here : Line) : Type 0 where
  pub earlier : List Event
  pub event : Event
  pub later : List Event
  pub parts : es ≡ earlier ++ event ∷ later
  pub is : before ≡ map lines.Step earlier
  pub same : here ≡ lines.Step event

pub peel_steps : (es : List Event) (tail before : List Line) (here : Line) (after : List Line) → map lines.Step es ++ tail ≡ before ++ here ∷ after
    → AtStep es before here ⊎ Later (map lines.Step es) tail before here after
peel_steps [] tail before here after e = inr (record { more = before; is = refl; parts = e })
peel_steps (g ∷ es) tail [] here after e =
    inl (record { earlier = []; event = g; later = es; parts = refl; is = refl; same = let h : here ≡ lines.Step g = cc in h })
peel_steps (g ∷ es) tail (y ∷ before) here after e =
    let h : y ≡ lines.Step g = cc in
    let t : map lines.Step es ++ tail ≡ before ++ here ∷ after = cc in
    elim (peel_steps es tail before here after t) [
      | inl a ↦ inl (record { earlier = g ∷ a.earlier; event = a.event; later = a.later; parts = ap (λ z. g ∷ z) a.parts; is = ap (λ z. z ∷ before) h ∙ ap (λ z. lines.Step g ∷ z) a.is; same = a.same })
      | inr l ↦ inr (record { more = l.more; is = ap (λ z. z ∷ before) h ∙ ap (λ z. lines.Step g ∷ z) l.is; parts = l.parts })
    ]
