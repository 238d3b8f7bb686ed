-- A text is one deck at most.
use Rattle.std.proofs.Common.{◌≡◌, ◌⊎◌, inl, inr, ℕ, List, length, refl, ap, sym, subst, ◌∙◌}
use Rattle.deck_tree.specs.declared.deck.Deck.{Deck}
use Rattle.deck_tree.specs.declared.statement.Statement.{Statement}
use Rattle.deck_tree.specs.declared.refusal.DeckRefusal.{DeckRefusal}
use Rattle.deck_lexer.specs.declared.token.Token.{Token}
use Rattle.deck_lexer.specs.Tokens.{lexes}
use Rattle.deck_grammar.specs.Lexemes.{Lexeme}
use Rattle.deck_grammar.specs.Spelling.{SpellsDeck}
use Rattle.deck_cursor.specs.Places.{lexemes}
use Rattle.deck_refusal.specs.Refused.{IsTextAccepted, IsTextRefused}
use Rattle.deck_parser.specs.Parsed.{IsDeckText}

same_deck : (a b : Deck) → a.statements ≡ b.statements → a.length ≡ b.length → a ≡ b
same_deck a b p q =
    ap (λ (s : List Statement). let d : Deck = record { statements = s; length = a.length } in d) p
    ∙ ap (λ (n : ℕ). let d : Deck = record { statements = b.statements; length = n } in d) q

pub one : ((text : List ℕ) (a b : List Token) → lexes text a → lexes text b → a ≡ b)
    → ((tokens : List Lexeme) (a b : List Statement) → SpellsDeck tokens a → SpellsDeck tokens b → a ≡ b)
    → (text : List ℕ) (a b : Deck) → IsDeckText text a → IsDeckText text b → a ≡ b
one tokens grammar text a b p q =
    let P : List Token → Type 0 = λ those. SpellsDeck (lexemes text those) a.statements in
    let spelled : SpellsDeck (lexemes text q.accepted.tokens) a.statements =
    subst P (tokens text p.accepted.tokens q.accepted.tokens p.accepted.lexing q.accepted.lexing) p.accepted.accepted.spelled in
    same_deck a b (grammar (lexemes text q.accepted.tokens) a.statements b.statements spelled q.accepted.accepted.spelled) (p.size ∙ sym q.size)

pub some : ((text : List ℕ) → ((all : List Statement) × IsTextAccepted text all) ⊎ ((refusal : DeckRefusal) × IsTextRefused text refusal))
    → (text : List ℕ) → ((deck : Deck) × IsDeckText text deck) ⊎ ((refusal : DeckRefusal) × IsTextRefused text refusal)
some answer text = elim (answer text) [
  | inl accepted ↦ inl (record { statements = accepted.0; length = length text }, record { accepted = accepted.1; size = refl })
  | inr refused ↦ inr refused
]
