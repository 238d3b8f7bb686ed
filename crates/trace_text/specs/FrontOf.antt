-- The front of a text, as the code holds it.
use Rattle.std.specs.Prelude.{◌≡◌, ℕ, List, length}
use Rattle.trace_text.specs.declared.front.Front.{Front}
use Rattle.trace_text.specs.Traces.{told}
use Rattle.trace_text.specs.Fronts.{Reaches, EndsAt}
use Rattle.trace_text.specs.Places.{lines_before, IsReadTo}

-- the first lines of the text are those before the front's place, and behind them comes none for that place
pub record IsFrontOf (text : List ℕ) (f : Front) : Type 0 where
  pub read : IsReadTo f.place (told f.trace)
  pub reached : Reaches text (lines_before f.place (told f.trace)) f.rest.now
  pub count : f.lines ≡ length (lines_before f.place (told f.trace))
  pub ends : EndsAt (lines_before f.place (told f.trace)) f.rest.now
