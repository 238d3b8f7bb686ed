-- A text is refused in one way at most.
use Rattle.std.proofs.Common.{◌≡◌, ℕ, List, length, refl, ap, subst, arith}
use Rattle.deck_tree.specs.declared.statement.Statement.{Statement}
use Rattle.deck_tree.specs.declared.refusal.DeckRefusal.{DeckRefusal}
use Rattle.deck_lexer.specs.declared.token.Token.{Token}
use Rattle.deck_lexer.specs.declared.token.LexFault.{LexFault}
use Rattle.deck_lexer.specs.Tokens.{lexes, IsFirstFact}
use Rattle.deck_grammar.specs.Lexemes.{Lexeme}
use Rattle.deck_grammar.specs.Refusals.{IsRefused, IsAccepted}
use Rattle.deck_cursor.specs.Places.{lexemes}
use Rattle.deck_refusal.specs.Refused.{refusal_for, IsTextRefused, too_long, no_token, by_tokens, IsTextAccepted}

-- what the laws of tokens and of the grammar say
pub record Laws : Type 0 where
  pub tokens : (text : List ℕ) → (a b : List Token) → lexes text a → lexes text b → a ≡ b
  pub facts : (text : List ℕ) → (a b : LexFault) → IsFirstFact text a → IsFirstFact text b → a ≡ b
  pub no_both : (text : List ℕ) → (those : List Token) → (fault : LexFault) → lexes text those
      → IsFirstFact text fault → ⊥
  pub refusal : (those : List Lexeme) (len : ℕ) (a b : DeckRefusal) → IsRefused those len a → IsRefused those len b
      → a ≡ b
  pub accepted : (those : List Lexeme) (len : ℕ) (all : List Statement) (a : DeckRefusal) → IsAccepted those all
      → IsRefused those len a → ⊥

pub one : Laws → (text : List ℕ) (a b : DeckRefusal) → IsTextRefused text a → IsTextRefused text b → a ≡ b
one l text _ _ (too_long m) (too_long n) = refl
one l text _ _ (too_long m) (no_token g n h) = absurd (omega arith)
one l text _ _ (too_long m) (by_tokens u s n y g) = absurd (omega arith)
one l text _ _ (no_token f m h) (too_long n) = absurd (omega arith)
one l text _ _ (no_token f m h) (no_token g n i) = ap refusal_for (l.facts text f g h i)
one l text _ _ (no_token f m h) (by_tokens u s n y g) = absurd (l.no_both text u f y h)
one l text _ _ (by_tokens t r m x f) (too_long n) = absurd (omega arith)
one l text _ _ (by_tokens t r m x f) (no_token g n h) = absurd (l.no_both text t g x h)
one l text _ _ (by_tokens t r m x f) (by_tokens u s n y g) =
    let P : List Token → Type 0 = λ those. IsRefused (lexemes text those) (length text) r in
    l.refusal (lexemes text u) (length text) r s (subst P (l.tokens text t u x y) f) g

pub not_both : Laws → (text : List ℕ) (all : List Statement) (a : DeckRefusal) → IsTextAccepted text all
    → IsTextRefused text a → ⊥
not_both l text all _ c (too_long m) = let size = c.size in omega arith
not_both l text all _ c (no_token f m h) = l.no_both text c.tokens f c.lexing h
not_both l text all _ c (by_tokens t r m x f) =
    let P : List Token → Type 0 = λ those. IsRefused (lexemes text those) (length text) r in
    l.accepted (lexemes text c.tokens) (length text) all r c.accepted (subst P (l.tokens text t c.tokens x c.lexing) f)
