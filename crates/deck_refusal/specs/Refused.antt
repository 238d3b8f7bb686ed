-- Why a text is no deck, and when it is one: a text that is too long; or else one with a fact among its tokens; or else
-- one whose tokens are refused.
use Rattle.std.specs.Prelude.{ℕ, ◌<◌, ◌≤◌, List, length}
use Rattle.deck_tree.specs.declared.statement.Statement.{Statement}
use Rattle.deck_tree.specs.declared.refusal.DeckRefusal.{DeckRefusal}
use Rattle.deck_tree.specs.declared.refusal.DeckKind.TheVariants as reasons
use Rattle.deck_lexer.specs.Sizes.{longest_deck}
use Rattle.deck_lexer.specs.declared.token.Token.{Token}
use Rattle.deck_lexer.specs.declared.token.LexFault.{LexFault}
use Rattle.deck_lexer.specs.declared.token.LexFault.TheVariants as faults
use Rattle.deck_lexer.specs.Tokens.{lexes, IsFirstFact}
use Rattle.deck_grammar.specs.Refusals.{refusal_at, IsRefused, IsAccepted}
use Rattle.deck_cursor.specs.Places.{lexemes}
use Rattle.deck_cursor.specs.Decks.{IsDeckOf}

-- the refusal for a fact among the tokens
abbrev pub refusal_for : LexFault → DeckRefusal
refusal_for (faults.BadByte place) = refusal_at place reasons.BadByte
refusal_for (faults.OpenComment place) = refusal_at place reasons.OpenComment
refusal_for (faults.OpenText place) = refusal_at place reasons.OpenText

-- the text is refused so
pub data IsTextRefused (text : List ℕ) : DeckRefusal → Type 0 where
  too_long : longest_deck < length text → IsTextRefused text (refusal_at longest_deck reasons.DeckTooLong)
  no_token : (fault : LexFault) → length text ≤ longest_deck → IsFirstFact text fault
      → IsTextRefused text (refusal_for fault)
  by_tokens : (tokens : List Token) (refusal : DeckRefusal) → length text ≤ longest_deck → lexes text tokens
      → IsRefused (lexemes text tokens) (length text) refusal → IsTextRefused text refusal

-- the text is a deck of these statements, and is not refused
pub record IsTextAccepted (text : List ℕ) (all : List Statement) : Type 0 where
  pub tokens : List Token
  pub size : length text ≤ longest_deck
  pub lexing : lexes text tokens
  pub accepted : IsAccepted (lexemes text tokens) all

-- the text is short enough and is spelled as some deck
pub record IsSpelled (text : List ℕ) : Type 0 where
  pub size : length text ≤ longest_deck
  pub all : List Statement
  pub deck : IsDeckOf text all
