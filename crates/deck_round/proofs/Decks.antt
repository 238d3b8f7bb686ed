-- The canonical text of a deck is spelled as the deck, and as no other.
use Rattle.std.proofs.Common.{◌≡◌, ℕ, ◌+◌, ◌≤◌, List, [], ◌++◌, length, map, sym, ap, subst, ◌∙◌, append-nil, arith}
use Rattle.deck_tree.specs.declared.statement.Statement.{Statement}
use Rattle.deck_tree.specs.declared.deck.Deck.{Deck}
use Rattle.deck_tree.specs.Plain.{plain_statement, plain}
use Rattle.deck_tree.specs.WellFormed.{IsWellFormed, deepest, depth_of_statement, most_nested}
use Rattle.deck_lexer.specs.declared.token.Token.{Token}
use Rattle.deck_lexer.specs.Tokens.{lexes}
use Rattle.deck_grammar.specs.Lexemes.{Lexeme}
use Rattle.deck_grammar.specs.Spelling.{SpellsDeck, Viable, choose, done}
use Rattle.deck_grammar.proofs.Fronts.{front_is_viable}
use Rattle.deck_cursor.specs.Places.{lexemes}
use Rattle.deck_cursor.specs.Decks.{IsDeckOf}
use Rattle.deck_cursor.proofs.Rounds.{Shallow, none_too_deep}
use Rattle.deck_printer.specs.Canonical.{canonical}
use Rattle.deck_round.specs.Alike.{AreAlike}
use Rattle.deck_round.proofs.Lexing.{Read, read_end}
use Rattle.deck_round.proofs.Statements.{statements_spelled}

pub spelled_so : (deck : Deck) → IsWellFormed deck → (read : List Statement) × IsDeckOf (canonical deck) read × AreAlike read deck.statements
spelled_so deck formed =
    let room : 0 + deepest (map depth_of_statement deck.statements) ≤ most_nested = omega (arith, formed.nesting) in
    let ruled = statements_spelled deck.statements (record { is = formed.statements; room = room }) in
    let it = ruled.spelled.at_each 0 in
    let whole : Read 0 (canonical deck ++ []) (it.those ++ []) = it.piece [] [] tt (read_end (0 + length (canonical deck))) in
    let read = whole (canonical deck) (sym (append-nil (canonical deck))) in
    let these : it.those ≡ lexemes (canonical deck) read.0 = sym (read.2 ∙ append-nil it.those) in
    let all : SpellsDeck (it.those ++ []) it.tree = choose ruled.alternative (it.spelled []) done in
    let spelled : SpellsDeck it.those it.tree = subst (λ (l : List Lexeme). SpellsDeck l it.tree) (append-nil it.those) all in
    let viable : Viable it.those = front_is_viable it.those [] it.tree all in (
      it.tree,
      record {
        tokens = read.0;
        lexing = read.1;
        spelled = subst (λ (l : List Lexeme). SpellsDeck l it.tree) these spelled;
        stand = (subst Viable these viable, none_too_deep (lexemes (canonical deck) read.0) (subst (Shallow 0) these it.walks.shallow));
      },
      it.is,
    )

-- what is known of tokens and of the grammar: a text has one list of tokens, which spells one deck
pub record Laws : Type 0 where
  pub one_list : (text : List ℕ) → (a b : List Token) → lexes text a → lexes text b → a ≡ b
  pub one_deck : (tokens : List Lexeme) (a b : List Statement) → SpellsDeck tokens a → SpellsDeck tokens b → a ≡ b

one_spelling : Laws → (text : List ℕ) (a b : List Statement) → IsDeckOf text a → IsDeckOf text b → a ≡ b
one_spelling laws text a b first second =
    let same = laws.one_list text first.tokens second.tokens first.lexing second.lexing in
    laws.one_deck (lexemes text second.tokens) a b (subst (λ (t : List Token). SpellsDeck (lexemes text t) a) same first.spelled) second.spelled

pub spelled_only_so : Laws → (deck : Deck) (read : List Statement) → IsWellFormed deck → IsDeckOf (canonical deck) read → AreAlike read deck.statements
spelled_only_so laws deck read formed spelled =
    let so = spelled_so deck formed in
    ap (map plain_statement) (one_spelling laws (canonical deck) read so.0 spelled so.1) ∙ so.2

abbrev placeless : List Statement → Deck
placeless all = record { statements = all; length = 0 }

-- decks of one text are equal but for places
pub same_text_same_deck : Laws → (a b : Deck) → IsWellFormed a → IsWellFormed b → canonical a ≡ canonical b → plain a ≡ plain b
same_text_same_deck laws a b first second same =
    let so = spelled_so a first in
    let alike : AreAlike a.statements b.statements = sym so.2 ∙ spelled_only_so laws b so.0 second (subst (λ (t : List ℕ). IsDeckOf t so.0) same so.1) in
    ap placeless alike
