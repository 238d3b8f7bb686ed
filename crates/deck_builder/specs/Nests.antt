-- A function value that reads what stands in round brackets, to a depth.
use Rattle.std.specs.Prelude.{ℕ, Result, IfOk}
use Rattle.std.specs.declared.alloc.Global.{Global}
use denote.Ref.{MutBor}
use Rattle.deck_grammar.specs.Rules.{Rule, Tree}
use Rattle.deck_cursor.specs.Places.{Place}
use Rattle.deck_cursor.specs.Steps.{Reads}
use Rattle.deck_cursor.specs.declared.cursor.Stop.{Stop}

-- it may be called, and reads what the rule spells
pub record Nests (q : Rule) (depth : ℕ) (pre : Global → MutBor Place → ℕ → Type 0)
    (post : Global → MutBor Place → ℕ → Result (Tree q) Stop → MutBor Place → Type 0) : Type 0 where
  pub callable : (alloc : Global) (old : MutBor Place) → pre alloc old depth
  pub reads : (alloc : Global) (old new : MutBor Place) (answer : Result (Tree q) Stop) → post alloc old depth answer new
      → IfOk answer (λ tree. Reads q old.now new.now tree)
