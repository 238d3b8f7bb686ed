-- The deck of a whole text.
use Rattle.std.specs.Prelude.{ℕ, List}
use Rattle.deck_tree.specs.declared.statement.Statement.{Statement}
use Rattle.deck_lexer.specs.declared.token.Token.{Token}
use Rattle.deck_lexer.specs.Tokens.{lexes}
use Rattle.deck_grammar.specs.Spelling.{SpellsDeck}
use Rattle.deck_grammar.specs.Refusals.{Stand}
use Rattle.deck_cursor.specs.Places.{lexemes}

-- the text has tokens alone, they spell a deck of these statements, and no round bracket is one too many
pub record IsDeckOf (text : List ℕ) (all : List Statement) : Type 0 where
  pub tokens : List Token
  pub lexing : lexes text tokens
  pub spelled : SpellsDeck (lexemes text tokens) all
  pub stand : Stand (lexemes text tokens)
