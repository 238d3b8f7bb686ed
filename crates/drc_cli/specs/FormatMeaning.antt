-- What the command `fmt` means. It reads the deck and says its canonical text; or the deck's text is refused, which is
-- said. Nothing stands here of how a run may fail.
use Rattle.std.specs.Prelude.{◌≡◌, ◌⊎◌, ℕ, List, [], ◌∷◌}
use Rattle.deck_tree.specs.declared.deck.Deck.{Deck}
use Rattle.deck_tree.specs.declared.refusal.DeckRefusal.{DeckRefusal}
use Rattle.deck_printer.specs.Canonical.{canonical}
use Rattle.deck_parser.specs.Parsed.{IsDeckText}
use Rattle.deck_refusal.specs.Refused.{IsTextRefused}
use Rattle.drc_cli.specs.declared.answer.Status.TheVariants as status
use Rattle.drc_cli.specs.declared.answer.Which.TheVariants as which
use Rattle.drc_cli.specs.Command.{FormatRequest}
use Rattle.drc_cli.specs.DeckMeaning.{SaysRefusal}
use Rattle.drc_cli.specs.Outcome.{Outcome, reads, says}

-- the text is a deck, and its canonical text is said
pub record SaysDeck (request : FormatRequest) (outcome : Outcome) : Type 0 where
  pub text : List ℕ
  pub deck : Deck
  pub is_deck : IsDeckText text deck
  pub status_is : outcome.status ≡ status.Done
  pub steps_are : outcome.steps ≡ reads which.Deck request.deck text ∷ says (canonical deck) ∷ []

pub record HasRefusedText (request : FormatRequest) (outcome : Outcome) : Type 0 where
  pub text : List ℕ
  pub refusal : DeckRefusal
  pub refused : IsTextRefused text refusal
  pub said : SaysRefusal request.deck text refusal outcome

-- a deck that is to be formatted leads to this outcome
abbrev pub FormatLeads : FormatRequest → Outcome → Type 0
FormatLeads request outcome = SaysDeck request outcome ⊎ HasRefusedText request outcome
