-- Reading from left to right: the next tokens choose each alternative.
use Rattle.std.specs.Prelude.{◌≡◌, ℕ, ◌<◌, List, [], ◌∷◌}
use Rattle.deck_grammar.specs.declared.kind.Kind.{Kind}
use Rattle.deck_grammar.specs.Lexemes.{Lexeme, lexeme}
use Rattle.deck_grammar.specs.Rules as r
use Rattle.deck_grammar.specs.Rules.{Rule, Tree, Part, token, rule, Meaning}
use Rattle.deck_grammar.specs.Alternatives.{production}
use Rattle.deck_grammar.specs.Working.Choosing.{rank, choice}

-- as `Spells`, by the alternatives that the tokens choose
pub data Reads : (r : Rule) (parts : List Part) → Meaning parts (Tree r) → List Lexeme → List Lexeme → Tree r → Type 0 where
  read_all : {r : Rule} {tree : Tree r} {rest : List Lexeme} → Reads r [] tree rest rest tree
  read_token : {r : Rule} {k : Kind} {at : ℕ} {bytes : List ℕ} {parts : List Part} {meaning : Lexeme → Meaning parts (Tree r)}
      {tokens rest : List Lexeme} {tree : Tree r}
      → Reads r parts (meaning (lexeme k at bytes)) tokens rest tree
      → Reads r (token k ∷ parts) meaning (lexeme k at bytes ∷ tokens) rest tree
  read_rule : {r q : Rule} {parts : List Part} {meaning : Tree q → Meaning parts (Tree r)}
      {tokens between rest : List Lexeme} {part : Tree q} {tree : Tree r}
      → Reads q (production (choice q tokens)).parts (production (choice q tokens)).tree tokens between part
      → Reads r parts (meaning part) between rest tree
      → Reads r (rule q ∷ parts) meaning tokens rest tree

-- What the rule spells may end here: nothing comes that would go on with it.
abbrev pub Ends : Rule → List Lexeme → Type 0
Ends r.statements rest = rank rest ≡ 17
Ends r.statement rest = 12 < rank rest
Ends r.file rest = Unit {0}
Ends r.names rest = 9 < rank rest
Ends r.numbers rest = 10 < rank rest
Ends r.ascii rest = 11 < rank rest
Ends r.mode rest = 12 < rank rest
Ends r.map_kind rest = Unit {0}
Ends r.items rest = rank rest ≡ 15
Ends r.value rest = 3 < rank rest
Ends r.addends rest = 3 < rank rest
Ends r.product rest = 2 < rank rest
Ends r.factors rest = 2 < rank rest
Ends r.power rest = 1 < rank rest
Ends r.exponent rest = 1 < rank rest
Ends r.atom rest = Unit {0}
Ends r.layer rest = 8 < rank rest
Ends r.operations rest = 8 < rank rest
Ends r.infix_operation rest = 8 < rank rest
Ends r.primary rest = 6 < rank rest
Ends r.term rest = Unit {0}
Ends r.limits rest = 4 < rank rest
Ends r.upper rest = 4 < rank rest
Ends r.bound rest = 3 < rank rest
Ends r.turn rest = 5 < rank rest
Ends r.side rest = Unit {0}
Ends (r.distance kind) rest = 6 < rank rest
Ends (r.options those) rest = 6 < rank rest
