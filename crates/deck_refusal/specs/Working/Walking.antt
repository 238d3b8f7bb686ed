-- How far a walk over the tokens of a text has come.
use Rattle.std.specs.Prelude.{◌≡◌, ◌≤◌, ℕ, List, [], ◌∷◌, ◌++◌, length, Option, Some, None, Result, Ok}
use Rattle.deck_lexer.specs.declared.token.Token.{Token}
use Rattle.deck_lexer.specs.declared.token.LexFault.{LexFault}
use Rattle.deck_lexer.specs.Tokens.{Lexes, lexes}
use Rattle.deck_grammar.specs.Lexemes.{Lexeme}
use Rattle.deck_tree.specs.declared.refusal.DeckRefusal.{DeckRefusal}
use Rattle.deck_tree.specs.declared.refusal.DeckKind.{DeckKind}
use Rattle.deck_tree.specs.declared.refusal.DeckKind.TheVariants as reasons
use Rattle.deck_grammar.specs.declared.kind.Kind.{Kind}
use Rattle.deck_grammar.specs.Rules.{Part}
use Rattle.deck_grammar.specs.Refusals.{Stand, open_behind, IsSetAside, IsWrong, IsRefused, refusal_at}
use Rattle.deck_cursor.specs.Places.{lexemes}
use Rattle.deck_stacks.specs.Stacks.{Among, Empties, Behind}
use Rattle.deck_refusal.specs.declared.walk.Walk.{Walk}
use Rattle.deck_refusal.specs.declared.walk.Gone.{Gone}
use Rattle.deck_refusal.specs.declared.walk.Gone.TheVariants as gone
use Rattle.deck_refusal.specs.Working.Recent.{latest}

-- with the tokens from the offset on, these are the tokens of the text
abbrev pub LexedTo : List ℕ → ℕ → List Token → Type 0
LexedTo text at before =
    (more : List Token) (last : Result (Option Token) LexFault) → Lexes text at more last
    → Lexes text 0 (before ++ more) last

-- the walk has come over these tokens, which can stand behind one another
pub record HasCome (before : List Lexeme) (walk : Walk) : Type 0 where
  pub stand : Stand before
  pub stacks : Behind before walk.stacks
  pub brackets : walk.brackets ≡ open_behind 0 before
  pub few : walk.brackets ≤ 64
  pub recent : walk.recent.items ≡ latest before

-- a token of this kind can't stand behind the tokens, and is set aside there or not
abbrev pub Misplaced : List Lexeme → Kind → DeckKind → Type 0
Misplaced before k reasons.Unsupported = IsSetAside before k
Misplaced before k reasons.Syntax = IsSetAside before k → ⊥
Misplaced before k other = ⊥

-- where a token leads behind these tokens
abbrev pub GoesTo : List Lexeme → Lexeme → Gone → Type 0
GoesTo before token (gone.Over walk) = HasCome (before ++ token ∷ []) walk
GoesTo before token (gone.Wrong reason) = IsWrong before token reason

-- how the tokens end behind the walk: as a deck, or refused at the text's end
abbrev pub EndsAs : Walk → ℕ → Option DeckRefusal → Type 0
EndsAs walk len None = (stack : List Part) × Among stack walk.stacks × Empties stack
EndsAs walk len (Some it) = (it ≡ refusal_at len reasons.Syntax) × ((stack : List Part) → Among stack walk.stacks
    → Empties stack → ⊥)

-- the tokens of the text are refused so
pub record IsWrongText (text : List ℕ) (refusal : DeckRefusal) : Type 0 where
  pub tokens : List Token
  pub lexing : lexes text tokens
  pub refused : IsRefused (lexemes text tokens) (length text) refusal

-- the walk has come over the tokens of the text before an offset, and others are left from there to the end
pub record HasRead (text : List ℕ) (at : ℕ) (walk : Walk) : Type 0 where
  pub before : List Token
  pub left : List Token
  pub whole : lexes text (before ++ left)
  pub rest : Lexes text at left (Ok None)
  pub within : at ≤ length text
  pub come : HasCome (lexemes text before) walk
