-- Each text is accepted as a deck, or refused.
use Rattle.std.proofs.Common.{◌⊎◌, inl, inr, ℕ, List, [], ◌∷◌, length}
use Rattle.std.proofs.lemmas.Bool.{cases_lt}
use Rattle.deck_lexer.specs.Sizes.{longest_deck}
use Rattle.deck_lexer.specs.declared.token.Token.{Token}
use Rattle.deck_lexer.specs.declared.token.LexFault.{LexFault}
use Rattle.deck_lexer.specs.Tokens.{lexes, IsFirstFact}
use Rattle.deck_tree.specs.declared.statement.Statement.{Statement}
use Rattle.deck_tree.specs.declared.refusal.DeckRefusal.{DeckRefusal}
use Rattle.deck_tree.specs.declared.refusal.DeckKind.TheVariants as reasons
use Rattle.deck_grammar.specs.Lexemes.{Lexeme, at}
use Rattle.deck_grammar.specs.Rules.{Part}
use Rattle.deck_grammar.specs.Spelling.{SpellsDeck}
use Rattle.deck_grammar.specs.Refusals.{refusal_at, Stand, IsRefused, at_token, at_end, missing, repeated, IsAccepted}
use Rattle.deck_cursor.specs.Places.{lexemes}
use Rattle.deck_stacks.specs.Stacks.{Among, here, later, Empties}
use Rattle.deck_stacks.proofs.Following.{ends_as_deck, deck_may_end, decided}
use Rattle.deck_refusal.specs.Refused.{refusal_for, IsTextRefused, too_long, no_token, by_tokens, IsTextAccepted}
use Rattle.deck_refusal.proofs.Singles.{missing_or_not, repeated_or_not, none_once}
use Rattle.deck_refusal.proofs.Walked.{Stands, nothing_stands, Ends, goes_wrong, comes_to_end, walked}

-- ---- Lists of tokens

-- they are those of a deck that is accepted, or are refused
abbrev AcceptedOrNot : List Lexeme → ℕ → Type 0
AcceptedOrNot tokens len = ((all : List Statement) × IsAccepted tokens all) ⊎ ((refusal : DeckRefusal) × IsRefused tokens len refusal)

by_statements : (tokens : List Lexeme) (len : ℕ) → Stand tokens → (all : List Statement) → SpellsDeck tokens all → AcceptedOrNot tokens len
by_statements tokens len stand all spelled = elim (missing_or_not all) [
  | inl m ↦ inr (refusal_at len (reasons.MissingStatement m.0), missing all m.0 stand spelled m.1)
  | inr there ↦ elim (repeated_or_not [] all none_once) [
    | inl r ↦ inr (refusal_at r.1.0 (reasons.RepeatedStatement r.0), repeated all r.0 r.1.0 stand spelled there r.1.1)
    | inr once ↦ inl (all, record { stand = stand; spelled = spelled; wanted_stand = there; stand_once = once })
  ]
]

some_empties : (stacks : List (List Part)) → ((stack : List Part) × Among stack stacks × Empties stack) ⊎ ((stack : List Part) → Among stack stacks → Empties stack → ⊥)
some_empties [] = inr (λ stack m e. elim m [ ])
some_empties (first ∷ others) = by (decided first) (some_empties others)
  where
    neither : (Empties first → ⊥) → ((stack : List Part) → Among stack others → Empties stack → ⊥) → (stack : List Part) → Among stack (first ∷ others) → Empties stack → ⊥
    neither isnt none _ here e = isnt e
    neither isnt none stack (later m) e = none stack m e

    by : Empties first ⊎ (Empties first → ⊥) → ((stack : List Part) × Among stack others × Empties stack) ⊎ ((stack : List Part) → Among stack others → Empties stack → ⊥)
        → ((stack : List Part) × Among stack (first ∷ others) × Empties stack) ⊎ ((stack : List Part) → Among stack (first ∷ others) → Empties stack → ⊥)
    by (inl e) rest = inl (first, here, e)
    by (inr isnt) (inl found) = inl (found.0, later found.1, found.2)
    by (inr isnt) (inr none) = inr (neither isnt none)

by_end : (tokens : List Lexeme) (len : ℕ) → Stands tokens → AcceptedOrNot tokens len
by_end tokens len come = elim (some_empties come.stacks) [
  | inl found ↦ let deck = ends_as_deck tokens come.stacks found.0 come.behind found.1 found.2 in by_statements tokens len come.stand deck.0 deck.1
  | inr none ↦ inr (
    refusal_at len reasons.Syntax,
    at_end come.stand (λ all spelled.
        let may = deck_may_end tokens all come.stacks come.behind spelled in none may.0 may.1 may.2),
  )
]

tokens_answer : (tokens : List Lexeme) (len : ℕ) → AcceptedOrNot tokens len
tokens_answer tokens len = by (walked [] tokens nothing_stands)
  where
    by : Ends [] tokens → AcceptedOrNot tokens len
    by (goes_wrong middle t behind reason e stand is) = inr (refusal_at (at t) reason, at_token middle t behind e stand is)
    by (comes_to_end come) = by_end tokens len come

-- ---- Texts

pub text_answer : ((text : List ℕ) → ((tokens : List Token) × lexes text tokens) ⊎ ((fault : LexFault) × IsFirstFact text fault))
    → (text : List ℕ) → ((all : List Statement) × IsTextAccepted text all) ⊎ ((refusal : DeckRefusal) × IsTextRefused text refusal)
text_answer lexed text = elim (cases_lt longest_deck (length text)) [
  | inl long ↦ inr (refusal_at longest_deck reasons.DeckTooLong, too_long long)
  | inr size ↦ elim (lexed text) [
    | inr fact ↦ inr (refusal_for fact.0, no_token fact.0 size fact.1)
    | inl those ↦ elim (tokens_answer (lexemes text those.0) (length text)) [
      | inl deck ↦ inl (deck.0, record { tokens = those.0; size = size; lexing = those.1; accepted = deck.1 })
      | inr refused ↦ inr (refused.0, by_tokens those.0 refused.0 size those.1 refused.1)
    ]
  ]
]
