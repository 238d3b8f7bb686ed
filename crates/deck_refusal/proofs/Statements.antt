-- Texts that are spelled as a deck, by their statements.
use Rattle.std.proofs.Common.{◌≡◌, ◌≤◌, ℕ, List, [], ◌∷◌, length, inl, refl, arith}
use Rattle.std.specs.Prelude.{Contains}
use Rattle.deck_lexer.specs.Sizes.{longest_deck}
use Rattle.deck_tree.specs.declared.statement.Statement.{Statement}
use Rattle.deck_tree.specs.declared.refusal.Single.{Single}
use Rattle.deck_tree.specs.declared.refusal.DeckKind.TheVariants as reasons
use Rattle.deck_grammar.specs.Refusals.{refusal_at, singles, wanted, IsMissing, IsRepeated, StandOnce, missing, repeated}
use Rattle.deck_grammar.specs.Alternatives.{no_statement}
use Rattle.deck_grammar.specs.Spelling.{done, choose, nothing}
use Rattle.deck_cursor.specs.Decks.{IsDeckOf}
use Rattle.deck_refusal.proofs.Going.{never_empty}
use Rattle.deck_refusal.specs.Refused.{IsTextRefused, by_tokens, IsTextAccepted}

abbrev pub HasWanted : List Statement → Type 0
HasWanted all = (one : Single) → Contains wanted one → Contains (singles all) one

pub missing_so : (text : List ℕ) (all : List Statement) (which : Single) → length text ≤ longest_deck
    → IsDeckOf text all → IsMissing all which
    → IsTextRefused text (refusal_at (length text) (reasons.MissingStatement which))
missing_so text all which size d m = by_tokens d.tokens _ size d.lexing (missing all which d.stand d.spelled m)

pub repeated_so : (text : List ℕ) (all : List Statement) (which : Single) (place : ℕ) → length text ≤ longest_deck
    → IsDeckOf text all → HasWanted all
    → IsRepeated all which place → IsTextRefused text (refusal_at place (reasons.RepeatedStatement which))
repeated_so text all which place size d w r = by_tokens d.tokens _ size d.lexing (repeated all which place d.stand
    d.spelled w r)

pub accepted_so : (text : List ℕ) (all : List Statement) → length text ≤ longest_deck → IsDeckOf text all
    → HasWanted all → StandOnce all → IsTextAccepted text all
accepted_so text all size d w once = record {
  tokens = d.tokens;
  size = size;
  lexing = d.lexing;
  accepted = record { stand = d.stand; spelled = d.spelled; wanted_stand = w; stand_once = once };
}

-- a text of no bytes is a deck of no statements
nothing_at_all : IsDeckOf [] []
nothing_at_all = record {
  tokens = [];
  lexing = record { gap = []; behind = []; whole = refl; is_gap = ([], tt, inl refl); stands = refl };
  spelled = choose no_statement done done;
  stand = (nothing, λ before token behind e deep. never_empty before token behind e);
}

pub empty_deck : (text : List ℕ) (all : List Statement) → length text ≡ 0 → length all ≡ 0 → IsDeckOf text all
empty_deck [] [] bytes those = nothing_at_all
empty_deck [] (first ∷ others) bytes those = absurd (omega arith)
empty_deck (b ∷ more) all bytes those = absurd (omega arith)
