-- The deck of a text, where its check is served so far: the text is accepted as a deck, which is of the first form.
use Rattle.std.specs.Prelude.{ℕ, List}
use Rattle.deck_tree.specs.declared.deck.Deck.{Deck}
use Rattle.deck_parser.specs.Parsed.{IsDeckText}
use Rattle.first_form.specs.FirstForm.{ServedDeck, IsFirstForm}

-- the text of the file of this name is a deck of the first form, and says this
pub record Spells (deck_name text : List ℕ) (d : ServedDeck) : Type 0 where
  pub deck : Deck
  pub is_deck : IsDeckText text deck
  pub form : IsFirstForm deck_name deck d

-- the text is a deck, and not of the first form
pub record IsUnserved (deck_name text : List ℕ) : Type 0 where
  pub deck : Deck
  pub is_deck : IsDeckText text deck
  pub no_form : (d : ServedDeck) → IsFirstForm deck_name deck d → ⊥
