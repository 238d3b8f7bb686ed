-- Which deck a list of tokens spells, and which lists are the front of such a list.
use Rattle.std.specs.Prelude.{ℕ, List, [], ◌∷◌}
use Rattle.deck_tree.specs.declared.statement.Statement.{Statement}
use Rattle.deck_grammar.specs.declared.kind.Kind.{Kind}
use Rattle.deck_grammar.specs.Lexemes.{Lexeme, lexeme}
use Rattle.deck_grammar.specs.Rules.{Rule, statements, Tree, Part, token, rule, Meaning}
use Rattle.deck_grammar.specs.Alternatives.{Alternative, production}

-- The first tokens, up to the rest, are spelled by the parts one after the other, and mean the tree: a token is one of
-- its kind, and what a rule spells is what one of its alternatives spells.
pub data Spells : (r : Rule) (parts : List Part) → Meaning parts (Tree r) → List Lexeme → List Lexeme → Tree r → Type 0 where
  done : {r : Rule} {tree : Tree r} {rest : List Lexeme} → Spells r [] tree rest rest tree
  take : {r : Rule} {k : Kind} {at : ℕ} {bytes : List ℕ} {parts : List Part} {meaning : Lexeme → Meaning parts (Tree r)}
      {tokens rest : List Lexeme} {tree : Tree r}
      → Spells r parts (meaning (lexeme k at bytes)) tokens rest tree
      → Spells r (token k ∷ parts) meaning (lexeme k at bytes ∷ tokens) rest tree
  choose : {r q : Rule} {parts : List Part} {meaning : Tree q → Meaning parts (Tree r)}
      {tokens between rest : List Lexeme} {part : Tree q} {tree : Tree r}
      → (a : Alternative q) → Spells q (production a).parts (production a).tree tokens between part
      → Spells r parts (meaning part) between rest tree
      → Spells r (rule q ∷ parts) meaning tokens rest tree

-- The tokens spell a deck of these statements.
abbrev pub SpellsDeck : List Lexeme → List Statement → Type 0
SpellsDeck tokens all = Spells statements (rule statements ∷ []) (λ those. those) tokens [] all

-- The tokens are a front of what the parts spell one after the other: nothing yet; or the first of them is in its place
-- and the others are a front of what follows; or they end inside what the first rule spells; or what it spells is whole.
pub data Front : List Part → List Lexeme → Type 0 where
  nothing : {parts : List Part} → Front parts []
  one_more : {k : Kind} {at : ℕ} {bytes : List ℕ} {parts : List Part} {tokens : List Lexeme}
      → Front parts tokens → Front (token k ∷ parts) (lexeme k at bytes ∷ tokens)
  within : {q : Rule} {parts : List Part} {tokens : List Lexeme}
      → (a : Alternative q) → Front (production a).parts tokens → Front (rule q ∷ parts) tokens
  past : {q : Rule} {parts : List Part} {tokens rest : List Lexeme} {part : Tree q}
      → (a : Alternative q) → Spells q (production a).parts (production a).tree tokens rest part
      → Front parts rest → Front (rule q ∷ parts) tokens

-- The tokens are a front of a deck.
abbrev pub Viable : List Lexeme → Type 0
Viable tokens = Front (rule statements ∷ []) tokens
