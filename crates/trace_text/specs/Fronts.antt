-- Fronts: how far a text goes as the text of a trace.
use Rattle.std.specs.Prelude.{◌≡◌, ℕ, List, [], ◌∷◌, ◌++◌}
use Rattle.trace_line.specs.declared.line.Line.{Line}
use Rattle.trace_line.specs.Lines.{Begins}
use Rattle.trace_text.specs.Traces.{Told, IsTrace, lines_of, text_of}

-- these are the first lines of some trace
pub record IsFront (ls : List Line) : Type 0 where
  pub of : Told
  pub trace : IsTrace of
  pub more : List Line
  pub parts : lines_of of ≡ ls ++ more

-- the text has these first lines, which are those of some trace, and the rest behind them
pub record Reaches (text : List ℕ) (ls : List Line) (rest : List ℕ) : Type 0 where
  pub front : IsFront ls
  pub parts : text ≡ text_of ls ++ rest

-- behind these lines the rest doesn't begin with a line of the form for its place
abbrev pub EndsAt : List Line → List ℕ → Type 0
EndsAt ls rest = (l : Line) (more : List ℕ) → Begins rest l more → IsFront (ls ++ l ∷ []) → ⊥
