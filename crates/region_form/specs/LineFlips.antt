-- The flips of one line, from a row.
use Rattle.std.specs.Prelude.{ℤ, List, map}
use Rattle.interval_row.specs.declared.span.Span.{Span}
use Rattle.region_form.specs.declared.flip.Flip.{Flip}

-- the flips that change the places of a row on one line
abbrev pub flips_on : (line : ℤ) → List Span → List Flip
flips_on line = map (λ s. record { y = line; x0 = s.lo; x1 = s.hi })
