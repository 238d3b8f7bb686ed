-- How a run ends: with the outcome that its words mean, or at a step of it that fails, or for want of memory. It is said of
-- the object that reads, writes and says, as it was before and as it is afterwards: of its tally always, and of its
-- contents where it tells.
use Rattle.std.specs.Prelude.{◌≡◌, ◌⊎◌, ℕ, ◌≤◌, ◌+◌, List, [], ◌∷◌, ◌++◌, Bool, IsTrue, Some}
use Rattle.drc_ports.specs.Counts.{Rose}
use Rattle.drc_ports.specs.Files.{Tally, Contents, World, HasNow}
use Rattle.deck_tree.specs.declared.deck.Deck.{Deck}
use Rattle.deck_printer.specs.Canonical.{canonical}
use Rattle.deck_parser.specs.Parsed.{IsDeckText}
use Rattle.first_form.specs.FirstForm.{ServedDeck}
use Rattle.drc_cli.specs.declared.answer.Status.{Status}
use Rattle.drc_cli.specs.declared.answer.Status.TheVariants as status
use Rattle.drc_cli.specs.declared.answer.Which.TheVariants as which
use Rattle.drc_cli.specs.CheckMeaning.{Reports}
use Rattle.drc_cli.specs.Command.{Command, check, format, CheckRequest, FormatRequest, Asks}
use Rattle.drc_cli.specs.Deck.{Spells}
use Rattle.drc_cli.specs.Lines.{read_line, write_line, memory_line}
use Rattle.drc_cli.specs.Meaning.{Means}
use Rattle.drc_cli.specs.Outcome.{Outcome, Step, reads, writes, says}
use Rattle.drc_cli.specs.Steps.{AreDone, Fails, IsTried}

-- ---- With all steps done

pub record IsWhole (outcome : Outcome) (answer : Status) (tells : Bool) (old new : World) : Type 0 where
  pub status_is : answer ≡ outcome.status
  pub done : AreDone tells outcome.steps old new

-- ---- At a file

-- the status and the line of a file that can't be read or written
abbrev pub IsFaultOf : Step → Status → (line : List ℕ) → Type 0
IsFaultOf (reads file name bytes) answer line = (answer ≡ status.ReadFault file) × (line ≡ read_line name)
IsFaultOf (writes file name text) answer line = (answer ≡ status.WriteFault file) × (line ≡ write_line name)
IsFaultOf (says text) answer line = ⊥

-- a file can't be read or written: the steps before it are done, and none behind it; and that is said, or the saying fails
pub record IsCut (outcome : Outcome) (answer : Status) (tells : Bool) (old new : World) : Type 0 where
  pub before : List Step
  pub step : Step
  pub behind : List Step
  pub line : List ℕ
  pub at : World
  pub failed : World
  pub steps : outcome.steps ≡ before ++ step ∷ behind
  pub done : AreDone tells before old at
  pub fails : Fails tells step at failed
  pub fault : IsFaultOf step answer line
  pub said : IsTried tells (says line) failed new

-- ---- At what is said

-- a command that is done but for its text is a fault; what is refused stays so, whatever is said of it
abbrev pub unsaid : Status → Status
unsaid status.Done = status.WriteFault which.Output
unsaid other = other

-- the text can't be said whole: the steps before it are done
pub record IsUnsaid (outcome : Outcome) (answer : Status) (tells : Bool) (old new : World) : Type 0 where
  pub before : List Step
  pub text : List ℕ
  pub at : World
  pub steps : outcome.steps ≡ before ++ says text ∷ []
  pub done : AreDone tells before old at
  pub fails : Fails tells (says text) at new
  pub status_is : answer ≡ unsaid outcome.status

-- ---- For want of memory

-- files were read alone, at most so many
pub record OnlyReads (most : ℕ) (tells : Bool) (old new : World) : Type 0 where
  pub read_faults : new.tally.read_faults ≡ old.tally.read_faults
  pub write_faults : new.tally.write_faults ≡ old.tally.write_faults
  pub say_faults : new.tally.say_faults ≡ old.tally.say_faults
  pub writing : new.tally.writing ≡ old.tally.writing
  pub begun : new.tally.begun ≤ old.tally.begun + most
  pub contents : IsTrue tells → new.contents ≡ record old.contents { left = new.contents.left }

-- nothing was made when memory ran out; and that is said, or the saying fails
pub record IsOutOfMemory (answer : Status) (tells : Bool) (old new : World) : Type 0 where
  pub status_is : answer ≡ status.NoMemory
  pub at : World
  pub read : OnlyReads 2 tells old at
  pub said : IsTried tells (says memory_line) at new

-- ---- Each run

-- an outcome ends so
abbrev pub EndsAs : Outcome → Status → (tells : Bool) → World → World → Type 0
EndsAs outcome answer tells old new =
    IsWhole outcome answer tells old new ⊎ (IsCut outcome answer tells old new ⊎ IsUnsaid outcome answer tells old new)

-- a run of the program with these words ends so
abbrev pub Ends : (words : List (List ℕ)) → Status → (tells : Bool) → World → World → Type 0
Ends words answer tells old new =
    ((outcome : Outcome) × Means words outcome × EndsAs outcome answer tells old new)
    ⊎ ((command : Command) × Asks words command × IsOutOfMemory answer tells old new)

-- ---- What follows

-- no call failed
pub record NoneFailed (old new : Tally) : Type 0 where
  pub reads : Rose old.read_faults new.read_faults → ⊥
  pub writes : Rose old.write_faults new.write_faults → ⊥
  pub says : Rose old.say_faults new.say_faults → ⊥

-- A check has its results: the results file holds exactly the bytes that deck and layout mean, each other file that was
-- made is as before, and the line was said.
pub record HasResults (request : CheckRequest) (old new : Contents) : Type 0 where
  pub deck : List ℕ
  pub d : ServedDeck
  pub bytes : List ℕ
  pub text : List ℕ
  pub line : List ℕ
  pub deck_held : old.held request.deck ≡ Some deck
  pub spelled : Spells request.deck deck d
  pub layout_held : old.held d.layout ≡ Some bytes
  pub reports : Reports d bytes request.date text line
  pub made : HasNow d.results text old.made new.made
  pub said : new.said ≡ old.said ++ line

-- A deck has its canonical text: that of the deck which the file spells was said, and no file was made.
pub record HasText (request : FormatRequest) (old new : Contents) : Type 0 where
  pub text : List ℕ
  pub deck : Deck
  pub text_held : old.held request.deck ≡ Some text
  pub is_deck : IsDeckText text deck
  pub made : new.made ≡ old.made
  pub said : new.said ≡ old.said ++ canonical deck

-- a command that is done has done this
abbrev pub HasDone : Command → (old new : Contents) → Type 0
HasDone (check request) old new = HasResults request old new
HasDone (format request) old new = HasText request old new

-- an answer before any file is made
abbrev pub IsRefusal : Status → Type 0
IsRefusal status.Done = ⊥
IsRefusal (status.WriteFault file) = ⊥
IsRefusal other = Unit {0}

-- no file was made, or begun to be made
pub record MakesNothing (tells : Bool) (old new : World) : Type 0 where
  pub writing : new.tally.writing ≡ old.tally.writing
  pub write_faults : new.tally.write_faults ≡ old.tally.write_faults
  pub made : IsTrue tells → new.contents.made ≡ old.contents.made
