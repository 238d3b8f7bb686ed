-- One of the stacks may spell nothing.
use Rattle.std.proofs.Common.{◌≡◌, inl, inr, ◌||◌, Bool, IsTrue, true, List, [], ◌∷◌, sym, ◌∙◌, ap}
use Rattle.std.specs.Prelude.{◌↔◌}
use Rattle.std.proofs.lemmas.Bool.{cases_Bool}
use Rattle.deck_grammar.specs.Rules as r
use Rattle.deck_stacks.specs.Stacks.{Among, here, later, Empties}
use Rattle.deck_stacks.specs.Working.Deriving.{all_empty}
use Rattle.deck_stacks.proofs.Emptying.{empties_all, all_empties}
use Rattle.deck_stacks.specs.Working.Opening.{some_empty}

abbrev MayEnd : List (List r.Part) → Type 0
MayEnd stacks = (stack : List r.Part) × Among stack stacks × Empties stack

ends : (stacks : List (List r.Part)) → some_empty stacks ≡ true → MayEnd stacks
ends [] h = absurd (cc)
ends (stack ∷ others) h = elim (cases_Bool (all_empty stack)) [
  | inl is ↦ (stack, here, all_empties stack is)
  | inr isnt ↦ let e = ends others (sym (ap (λ b. b || some_empty others) isnt) ∙ h) in (e.0, later e.1, e.2)
]

ended : (stacks : List (List r.Part)) (stack : List r.Part) → Among stack stacks → Empties stack
    → some_empty stacks ≡ true
ended [] stack m e = elim m [ ]
ended (_ ∷ others) stack here e = ap (λ b. b || some_empty others) (empties_all e)
ended (first ∷ others) stack (later m) e = elim (cases_Bool (all_empty first)) [
  | inl is ↦ ap (λ b. b || some_empty others) is
  | inr isnt ↦ ap (λ b. b || some_empty others) isnt ∙ ended others stack m e
]

pub some_end : (b : Bool) (stacks : List (List r.Part)) → b ≡ some_empty stacks → IsTrue b ↔ MayEnd stacks
some_end b stacks is = (λ t. ends stacks (sym is ∙ t), λ m. is ∙ ended stacks m.0 m.1 m.2)
