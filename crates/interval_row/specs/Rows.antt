-- Rows of spans: which places a list of spans has, when it is a row (ascending spans that are not empty and neither
-- overlap nor touch).
use Rattle.std.specs.Prelude.{Bool, false, ◌||◌, ℤ, ◌<ℤ◌, List, [], ◌∷◌}
use Rattle.std.specs.List.{AllByRecursion}
use Rattle.list_facts.specs.Between.{between}
use Rattle.interval_row.specs.declared.span.Span.{Span}

-- place x is in one of the spans
abbrev pub has : List Span → ℤ → Bool
has [] x = false
has (s ∷ ss) x = between s.lo s.hi x || has ss x

-- the first span begins above a place
abbrev pub BeginsAbove : ℤ → List Span → Type 0
BeginsAbove p [] = Unit {0}
BeginsAbove p (s ∷ ss) = p <ℤ s.lo

-- each span has a place, and ends below the place where the next one begins
abbrev pub IsRow : List Span → Type 0
IsRow [] = Unit {0}
IsRow (s ∷ ss) = (s.lo <ℤ s.hi) × BeginsAbove s.hi ss × IsRow ss

-- every span ends below a place
abbrev pub StandsBehind : List Span → ℤ → Type 0
StandsBehind spans p = AllByRecursion (λ s. s.hi <ℤ p) spans
