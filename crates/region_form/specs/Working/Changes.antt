-- What changes on one line, as a row of spans and as flips.
use Rattle.std.specs.Prelude.{ℤ, int_le, if◌then◌else◌, List, [], ◌∷◌}
use Rattle.interval_row.specs.declared.span.Span.{Span}
use Rattle.region_form.specs.declared.flip.Flip.{Flip}

-- the columns of the flips before the first that lies above the line
abbrev pub spans_up_to : ℤ → List Flip → List Span
spans_up_to line [] = []
spans_up_to line (f ∷ fs) = if int_le f.y line then record { lo = f.x0; hi = f.x1 } ∷ spans_up_to line fs else []
