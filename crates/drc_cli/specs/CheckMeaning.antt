-- What the command `check` means. It reads the deck, and the layout that the deck names, writes the results and says how
-- many there are; or the deck or the layout is refused, which is said. Nothing stands here of how a run may fail.
use Rattle.std.specs.Prelude.{◌≡◌, ◌⊎◌, ℕ, List, [], ◌∷◌, map, Option, Some}
use Rattle.drc_geom.specs.declared.run.Run.{Run}
use Rattle.drc_geom.specs.Runs.{run_order}
use Rattle.list_facts.specs.InOrder.{ListsInOrder}
use Rattle.gds_records.specs.declared.fault.LayoutRefusal.{LayoutRefusal}
use Rattle.drc_cli.specs.declared.answer.Status.TheVariants as status
use Rattle.drc_cli.specs.declared.answer.Which.TheVariants as which
use Rattle.deck_tree.specs.declared.refusal.DeckKind.TheVariants as reasons
use Rattle.deck_tree.specs.declared.refusal.DeckRefusal.{DeckRefusal}
use Rattle.deck_refusal.specs.Refused.{IsTextRefused}
use Rattle.first_form.specs.FirstForm.{ServedDeck, input_of, units_of, precision, limit}
use Rattle.drc_cli.specs.Command.{CheckRequest}
use Rattle.drc_cli.specs.Deck.{Spells, IsUnserved}
use Rattle.drc_cli.specs.DeckMeaning.{SaysRefusal}
use Rattle.drc_cli.specs.Layout.{Element, Accepts, Refuses, drawn}
use Rattle.drc_cli.specs.Lines.{layout_line}
use Rattle.drc_cli.specs.Outcome.{Outcome, reads, writes, says}
use Rattle.drc_cli.specs.ShortRuns.{IsShortRun}
use Rattle.drc_cli.specs.Text.{CheckResults, run, results_text, said_text}

-- what the check of a deck of the first form writes, where it found these runs
abbrev pub results_of : ServedDeck → (date : List ℕ) → List Run → CheckResults
results_of d date runs = record { name = d.check; notes = d.note ∷ []; limit = limit; date = date; results = map run runs }

-- The results of a deck over a layout of these bytes, and the line that is said: the runs of the boundary of the checked
-- layer's squares that are shorter than the deck's bound, in run order.
pub record Reports (d : ServedDeck) (bytes date text line : List ℕ) : Type 0 where
  pub elements : List Element
  pub runs : List Run
  pub accepted : Accepts d.primary bytes elements
  pub reported : ListsInOrder run_order (IsShortRun (drawn (input_of d).number elements) (units_of d.bound)) runs
  pub text_is : text ≡ results_text d.primary precision (results_of d date runs ∷ [])
  pub line_is : line ≡ said_text (results_of d date runs ∷ [])

-- deck and layout are read, the results written, and the line said
pub record IsServed (request : CheckRequest) (outcome : Outcome) : Type 0 where
  pub deck : List ℕ
  pub d : ServedDeck
  pub bytes : List ℕ
  pub text : List ℕ
  pub line : List ℕ
  pub spelled : Spells request.deck deck d
  pub reports : Reports d bytes request.date text line
  pub status_is : outcome.status ≡ status.Done
  pub steps_are : outcome.steps
      ≡ reads which.Deck request.deck deck ∷ reads which.Layout d.layout bytes ∷ writes which.Results d.results text ∷ says line ∷ []

-- a deck that isn't served is refused at its first byte
abbrev pub unserved_deck : DeckRefusal
unserved_deck = record { at = 0; kind = reasons.NotBuilt }

-- the text of the file of this name is refused so: it is no deck, or a deck that isn't served
abbrev pub IsDeckRefused : (deck_name text : List ℕ) → DeckRefusal → Type 0
IsDeckRefused deck_name text refusal =
    IsTextRefused text refusal ⊎ (IsUnserved deck_name text × (refusal ≡ unserved_deck))

pub record HasRefusedDeck (request : CheckRequest) (outcome : Outcome) : Type 0 where
  pub deck : List ℕ
  pub refusal : DeckRefusal
  pub refused : IsDeckRefused request.deck deck refusal
  pub said : SaysRefusal request.deck deck refusal outcome

-- the layout that the deck names is refused
pub record HasRefusedLayout (request : CheckRequest) (outcome : Outcome) : Type 0 where
  pub deck : List ℕ
  pub d : ServedDeck
  pub bytes : List ℕ
  pub refusal : LayoutRefusal
  pub spelled : Spells request.deck deck d
  pub refused : Refuses d.primary bytes refusal
  pub status_is : outcome.status ≡ status.Layout refusal
  pub steps_are : outcome.steps
      ≡ reads which.Deck request.deck deck ∷ reads which.Layout d.layout bytes ∷ says (layout_line refusal) ∷ []

-- a check that is asked for leads to this outcome
abbrev pub CheckLeads : CheckRequest → Outcome → Type 0
CheckLeads request outcome =
    IsServed request outcome ⊎ (HasRefusedDeck request outcome ⊎ HasRefusedLayout request outcome)

-- the layout that a deck names is held, and is accepted or refused
pub record IsJudged (held : List ℕ → Option (List ℕ)) (d : ServedDeck) : Type 0 where
  pub bytes : List ℕ
  pub is_held : held d.layout ≡ Some bytes
  pub judged : ((elements : List Element) × Accepts d.primary bytes elements) ⊎ ((refusal : LayoutRefusal) × Refuses d.primary bytes refusal)
