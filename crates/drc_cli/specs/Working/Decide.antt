-- What is decided before anything is written, and the steps that are left.
use Rattle.std.specs.Prelude.{◌≡◌, ℕ, ℤ, ◌≤◌, List, [], ◌∷◌, ◌++◌, length, map, Bool, Result, Ok, Err, string_bytes}
use Rattle.std.specs.Global.{Vec}
use Rattle.drc_geom.specs.declared.rect.Rect.{Rect}
use Rattle.drc_geom.specs.declared.run.Run.{Run}
use Rattle.drc_geom.specs.Squares.{covered}
use Rattle.drc_geom.specs.Runs.{run_order}
use Rattle.list_facts.specs.InOrder.{ListsInOrder}
use Rattle.drc_ports.specs.Files.{World}
use Rattle.drc_cli.specs.declared.answer.Status.TheVariants as status
use Rattle.drc_cli.specs.declared.answer.Which.TheVariants as which
use Rattle.deck_tree.specs.declared.deck.Deck.{Deck}
use Rattle.deck_parser.specs.Parsed.{IsDeckText}
use Rattle.deck_refusal.specs.Refused.{IsTextRefused}
use Rattle.first_form.specs.declared.served.FirstDeck.{FirstDeck}
use Rattle.first_form.specs.FirstForm.{precision, limit}
use Rattle.drc_cli.specs.declared.ending.Ending.{Ending}
use Rattle.drc_cli.specs.declared.ending.Ending.TheVariants as ending
use Rattle.drc_cli.specs.declared.ready.Ready.{Ready}
use Rattle.deck_lexer.specs.Sizes.{longest_deck}
use Rattle.drc_cli.specs.Command.{Command}
use Rattle.drc_cli.specs.Layout.{Element, Accepts, Refuses, drawn}
use Rattle.drc_cli.specs.Lines.{IsDetail, deck_line, layout_line}
use Rattle.drc_cli.specs.Meaning.{Leads}
use Rattle.drc_cli.specs.Outcome.{Outcome, Step, reads, writes, says}
use Rattle.drc_cli.specs.ProgramEnds.{OnlyReads}
use Rattle.drc_cli.specs.ShortRuns.{IsShortRun}
use Rattle.drc_cli.specs.Steps.{IsDone, AreDone, Fails}
use Rattle.drc_cli.specs.Text.{CheckResults, run, results_text, said_text}

-- ---- Steps that are left

-- the outcome's steps are done but for these, which come last
pub record Leaves (outcome : Outcome) (last : List Step) (tells : Bool) (old new : World) : Type 0 where
  pub before : List Step
  pub steps : outcome.steps ≡ before ++ last
  pub done : AreDone tells before old new

-- the outcome's steps are done up to this one, which failed
pub record FailsAt (outcome : Outcome) (step : Step) (tells : Bool) (old new : World) : Type 0 where
  pub behind : List Step
  pub at : World
  pub left : Leaves outcome (step ∷ behind) tells old at
  pub fails : Fails tells step at new

-- what a command that is ready still does
abbrev pub last_steps : Ready → List Step
last_steps ready = writes which.Results (string_bytes ready.file) ready.text.items ∷ says ready.line.items ∷ []

-- ---- The deck

-- the whole text, or more of its front than a deck may have
abbrev pub IsTextRead : (name : List ℕ) → Result (Vec ℕ) Ending → (tells : Bool) → World → World → Type 0
IsTextRead name (Ok text) tells old new =
    (rest : List ℕ) × (length text.items ≤ longest_deck → rest ≡ []) × IsDone tells (reads which.Deck name (text.items ++ rest)) old new
IsTextRead name (Err (ending.ReadFault which.Deck kept)) tells old new = (kept ≡ name) × Fails tells (reads which.Deck name []) old new
IsTextRead name (Err ending.Memory) tells old new = OnlyReads 1 tells old new
IsTextRead name (Err other) tells old new = ⊥

-- the deck that the text spells, or its refusal with the detail
abbrev pub IsDeckParsed : (text : List ℕ) → Result Deck Ending → Type 0
IsDeckParsed text (Ok deck) = IsDeckText text deck
IsDeckParsed text (Err (ending.Deck refusal detail)) = IsTextRefused text refusal × IsDetail text refusal detail
IsDeckParsed text (Err ending.Memory) = Unit {0}
IsDeckParsed text (Err other) = ⊥

-- the file is read, and spells this deck or is refused so
abbrev pub IsDeckRead : (name : List ℕ) → Result Deck Ending → (tells : Bool) → World → World → Type 0
IsDeckRead name (Ok deck) tells old new =
    (text : List ℕ) × IsDeckText text deck × IsDone tells (reads which.Deck name text) old new
IsDeckRead name (Err (ending.Deck refusal detail)) tells old new =
    (text : List ℕ) × IsTextRefused text refusal × IsDetail text refusal detail × IsDone tells (reads which.Deck name text) old new
IsDeckRead name (Err (ending.ReadFault which.Deck kept)) tells old new = (kept ≡ name) × Fails tells (reads which.Deck name []) old new
IsDeckRead name (Err ending.Memory) tells old new = OnlyReads 1 tells old new
IsDeckRead name (Err other) tells old new = ⊥

-- ---- The layout

abbrev pub IsLayoutRead : FirstDeck → Result (Vec Rect) Ending → (tells : Bool) → World → World → Type 0
IsLayoutRead deck (Ok rects) tells old new =
    (bytes : List ℕ) × (elements : List Element) × Accepts deck.primary.now bytes elements
    × ((x y : ℤ) → covered rects.items x y ≡ drawn deck.number elements x y)
    × IsDone tells (reads which.Layout deck.layout.now bytes) old new
IsLayoutRead deck (Err (ending.Layout refusal)) tells old new =
    (bytes : List ℕ) × Refuses deck.primary.now bytes refusal × IsDone tells (reads which.Layout deck.layout.now bytes) old new
IsLayoutRead deck (Err (ending.ReadFault which.Layout kept)) tells old new =
    (kept ≡ deck.layout.now) × Fails tells (reads which.Layout deck.layout.now []) old new
IsLayoutRead deck (Err ending.Memory) tells old new = OnlyReads 1 tells old new
IsLayoutRead deck (Err other) tells old new = ⊥

-- ---- What is written

abbrev pub results_in : FirstDeck → (date : List ℕ) → List Run → CheckResults
results_in deck date runs = record { name = deck.check.now; notes = deck.note.now ∷ []; limit = limit; date = date; results = map run runs }

pub record IsReady (date : List ℕ) (deck : FirstDeck) (rects : List Rect) (ready : Ready) : Type 0 where
  pub runs : List Run
  pub reported : ListsInOrder run_order (IsShortRun (covered rects) deck.bound) runs
  pub file_is : string_bytes ready.file ≡ deck.results.now
  pub name_is : ready.name ≡ deck.results.now
  pub text_is : ready.text.items ≡ results_text deck.primary.now precision (results_in deck date runs ∷ [])
  pub line_is : ready.line.items ≡ said_text (results_in deck date runs ∷ [])

-- ---- The whole

-- a command ends before it writes or says its text
abbrev pub IsEnded : Command → Ending → (tells : Bool) → World → World → Type 0
IsEnded command (ending.ReadFault file name) tells old new =
    (outcome : Outcome) × Leads command outcome × FailsAt outcome (reads file name []) tells old new
IsEnded command ending.Memory tells old new = OnlyReads 2 tells old new
IsEnded command (ending.Deck refusal detail) tells old new =
    (outcome : Outcome) × Leads command outcome × (outcome.status ≡ status.Deck refusal)
    × Leaves outcome (says (deck_line refusal detail) ∷ []) tells old new
IsEnded command (ending.Layout refusal) tells old new =
    (outcome : Outcome) × Leads command outcome × (outcome.status ≡ status.Layout refusal)
    × Leaves outcome (says (layout_line refusal) ∷ []) tells old new

-- a check is ready to write, or ends
abbrev pub IsDecided : Command → Result Ready Ending → (tells : Bool) → World → World → Type 0
IsDecided command (Ok ready) tells old new =
    (outcome : Outcome) × Leads command outcome × (outcome.status ≡ status.Done)
    × Leaves outcome (last_steps ready) tells old new × (ready.name ≡ string_bytes ready.file)
IsDecided command (Err end) tells old new = IsEnded command end tells old new

-- a text is ready to be said, or the command ends
abbrev pub IsPrinted : Command → Result (Vec ℕ) Ending → (tells : Bool) → World → World → Type 0
IsPrinted command (Ok text) tells old new =
    (outcome : Outcome) × Leads command outcome × (outcome.status ≡ status.Done)
    × Leaves outcome (says text.items ∷ []) tells old new
IsPrinted command (Err end) tells old new = IsEnded command end tells old new
