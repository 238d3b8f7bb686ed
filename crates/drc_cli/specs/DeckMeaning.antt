-- What is said of a deck that is refused, by each command that reads one.
use Rattle.std.specs.Prelude.{◌≡◌, ℕ, List, [], ◌∷◌}
use Rattle.deck_tree.specs.declared.refusal.DeckRefusal.{DeckRefusal}
use Rattle.drc_cli.specs.declared.answer.Status.TheVariants as status
use Rattle.drc_cli.specs.declared.answer.Which.TheVariants as which
use Rattle.drc_cli.specs.Lines.{IsDetail, deck_line}
use Rattle.drc_cli.specs.Outcome.{Outcome, reads, says}

-- the deck of this name is read, has this text, and is refused so: its line is said, with the detail
pub record SaysRefusal (name text : List ℕ) (refusal : DeckRefusal) (outcome : Outcome) : Type 0 where
  pub detail : List ℕ
  pub detail_is : IsDetail text refusal detail
  pub status_is : outcome.status ≡ status.Deck refusal
  pub steps_are : outcome.steps ≡ reads which.Deck name text ∷ says (deck_line refusal detail) ∷ []
