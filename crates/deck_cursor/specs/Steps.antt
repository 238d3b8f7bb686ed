-- What a rule of the grammar spells between two places of a text: the grammar's `Spells`, by steps over tokens.
use Rattle.std.specs.Prelude.{◌≡◌, List, [], ◌∷◌}
use Rattle.deck_grammar.specs.declared.kind.Kind.{Kind}
use Rattle.deck_grammar.specs.Lexemes.{Lexeme, kind}
use Rattle.deck_grammar.specs.Rules.{Rule, Tree, Part, token, rule, Meaning}
use Rattle.deck_grammar.specs.Alternatives.{Alternative, production}
use Rattle.deck_cursor.specs.Places.{Place, Takes}

-- from one place to the other the parts spell the tree
pub data Steps : (r : Rule) (parts : List Part) → Meaning parts (Tree r) → Place → Place → Tree r → Type 0 where
  ended : {r : Rule} {meaning tree : Tree r} {place : Place} → tree ≡ meaning → Steps r [] meaning place place tree
  taken : {r : Rule} {k : Kind} {parts : List Part} {meaning : Lexeme → Meaning parts (Tree r)}
      {from between to : Place} {tree : Tree r} (t : Lexeme)
      → Takes from t between → kind t ≡ k → Steps r parts (meaning t) between to tree
      → Steps r (token k ∷ parts) meaning from to tree
  chosen : {r q : Rule} {parts : List Part} {meaning : Tree q → Meaning parts (Tree r)}
      {from between to : Place} {part : Tree q} {tree : Tree r}
      → (a : Alternative q) → Steps q (production a).parts (production a).tree from between part
      → Steps r parts (meaning part) between to tree
      → Steps r (rule q ∷ parts) meaning from to tree

-- from one place to the other the rule spells the tree
pub record Reads (q : Rule) (from to : Place) (tree : Tree q) : Type 0 where
  pub alternative : Alternative q
  pub steps : Steps q (production alternative).parts (production alternative).tree from to tree
