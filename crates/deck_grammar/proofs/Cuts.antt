-- A front of what some parts spell is a front of the parts, and each front of them can be completed.
use Rattle.std.proofs.Common.{List, [], ◌∷◌, ◌++◌, ◌⊎◌, inl, inr}
use Rattle.deck_grammar.specs.Lexemes.{Lexeme}
use Rattle.deck_grammar.specs.Rules.{Rule, Tree, Part, Meaning}
use Rattle.deck_grammar.specs.Spelling.{Spells, done, take, choose, Front, nothing, one_more, within, past}

-- the whole is the front and then the more
pub data Joins : List Lexeme → List Lexeme → List Lexeme → Type 0 where
  joined : {more : List Lexeme} → Joins [] more more
  one : {t : Lexeme} {front more whole : List Lexeme} → Joins front more whole → Joins (t ∷ front) more (t ∷ whole)

pub joins : (front more : List Lexeme) → Joins front more (front ++ more)
joins [] more = joined
joins (t ∷ front) more = one (joins front more)

-- what is spelled is cut inside what the parts spell, or behind it
pub record Behind (r : Rule) (parts : List Part) (meaning : Meaning parts (Tree r)) (front more rest : List Lexeme) (tree : Tree r) : Type 0 where
  pub between : List Lexeme
  pub spelled : Spells r parts meaning front between tree
  pub cut_at : Joins between more rest

pub cut : {r : Rule} {parts : List Part} {meaning : Meaning parts (Tree r)} {whole rest : List Lexeme} {tree : Tree r}
    → Spells r parts meaning whole rest tree → {front more : List Lexeme} → Joins front more whole
    → Front parts front ⊎ Behind r parts meaning front more rest tree
cut done j = inr (record { between = _; spelled = done; cut_at = j })
cut (take s) joined = inl nothing
cut (take s) (one j) = elim (cut s j) [
  | inl f ↦ inl (one_more f)
  | inr b ↦ inr (record { between = b.between; spelled = take b.spelled; cut_at = b.cut_at })
]
cut (choose a s more_s) j = elim (cut s j) [
  | inl f ↦ inl (within a f)
  | inr b ↦ elim (cut more_s b.cut_at) [
    | inl f ↦ inl (past a b.spelled f)
    | inr c ↦ inr (record { between = c.between; spelled = choose a b.spelled c.spelled; cut_at = c.cut_at })
  ]
]
