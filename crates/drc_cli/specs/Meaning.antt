-- What the words of the command line mean: an outcome, over files that hold what its steps read.
use Rattle.std.specs.Prelude.{◌≡◌, ◌⊎◌, ℕ, List, [], ◌∷◌, Option, Some}
use Rattle.std.specs.List.{AllByRecursion}
use Rattle.drc_cli.specs.declared.answer.Status.TheVariants as status
use Rattle.drc_cli.specs.CheckMeaning.{CheckLeads}
use Rattle.drc_cli.specs.Command.{Command, check, format, Asks, AreRefused}
use Rattle.drc_cli.specs.FormatMeaning.{FormatLeads}
use Rattle.drc_cli.specs.Lines.{words_line}
use Rattle.drc_cli.specs.Outcome.{Outcome, Step, reads, writes, says}

-- a command leads to this outcome: one line for each command
abbrev pub Leads : Command → Outcome → Type 0
Leads (check request) outcome = CheckLeads request outcome
Leads (format request) outcome = FormatLeads request outcome

-- words that ask for nothing are refused
abbrev pub refused_words : Outcome
refused_words = record { status = status.Words; steps = says words_line ∷ [] }

abbrev pub Means : (words : List (List ℕ)) → Outcome → Type 0
Means words outcome =
    ((command : Command) × Asks words command × Leads command outcome)
    ⊎ (AreRefused words × (outcome ≡ refused_words))

-- what a step reads is held: `held` is the map from the names of files to their bytes
abbrev pub IsHeld : (held : List ℕ → Option (List ℕ)) → Step → Type 0
IsHeld held (reads which name bytes) = held name ≡ Some bytes
IsHeld held (writes which name text) = Unit {0}
IsHeld held (says text) = Unit {0}

-- the outcome that the words have over these files
pub record Due (held : List ℕ → Option (List ℕ)) (words : List (List ℕ)) (outcome : Outcome) : Type 0 where
  pub meant : Means words outcome
  pub reads_held : AllByRecursion (IsHeld held) outcome.steps
