-- The number and the word of each reason for which a deck is refused, and the words of what it holds.
use Rattle.std.specs.Prelude.{ℕ, List, codes}
use Rattle.deck_tree.specs.declared.refusal.DeckKind.{DeckKind}
use Rattle.deck_tree.specs.declared.refusal.DeckKind.TheVariants as kinds
use Rattle.deck_tree.specs.declared.refusal.Single.{Single}
use Rattle.deck_tree.specs.declared.refusal.Single.TheVariants as single
use Rattle.deck_tree.specs.declared.refusal.Counted.{Counted}
use Rattle.deck_tree.specs.declared.refusal.Counted.TheVariants as counted

abbrev pub deck_number : DeckKind → ℕ
deck_number kinds.DeckTooLong = 1
deck_number kinds.BadByte = 2
deck_number kinds.OpenComment = 3
deck_number kinds.OpenText = 4
deck_number kinds.ValueRange = 5
deck_number kinds.Unsupported = 6
deck_number kinds.Syntax = 7
deck_number kinds.DuplicateName = 8
deck_number kinds.UndefinedName = 9
deck_number kinds.WrongType = 10
deck_number kinds.OffGrid = 11
deck_number kinds.DivideByZero = 12
deck_number (kinds.MissingStatement which) = 13
deck_number (kinds.RepeatedStatement which) = 14
deck_number (kinds.TooMany what) = 15
deck_number kinds.SameFile = 16
deck_number kinds.LayerCycle = 17
deck_number kinds.NotBuilt = 90

abbrev pub deck_word : DeckKind → List ℕ
deck_word kinds.DeckTooLong = codes "DeckTooLong"
deck_word kinds.BadByte = codes "BadByte"
deck_word kinds.OpenComment = codes "OpenComment"
deck_word kinds.OpenText = codes "OpenText"
deck_word kinds.ValueRange = codes "ValueRange"
deck_word kinds.Unsupported = codes "Unsupported"
deck_word kinds.Syntax = codes "Syntax"
deck_word kinds.DuplicateName = codes "DuplicateName"
deck_word kinds.UndefinedName = codes "UndefinedName"
deck_word kinds.WrongType = codes "WrongType"
deck_word kinds.OffGrid = codes "OffGrid"
deck_word kinds.DivideByZero = codes "DivideByZero"
deck_word (kinds.MissingStatement which) = codes "MissingStatement"
deck_word (kinds.RepeatedStatement which) = codes "RepeatedStatement"
deck_word (kinds.TooMany what) = codes "TooMany"
deck_word kinds.SameFile = codes "SameFile"
deck_word kinds.LayerCycle = codes "LayerCycle"
deck_word kinds.NotBuilt = codes "NotBuilt"

-- the words with which a statement begins that stands at most once
abbrev pub statement_words : Single → List ℕ
statement_words single.LayoutSystem = codes "LAYOUT SYSTEM"
statement_words single.LayoutPath = codes "LAYOUT PATH"
statement_words single.LayoutPrimary = codes "LAYOUT PRIMARY"
statement_words single.ResultsDatabase = codes "DRC RESULTS DATABASE"
statement_words single.Precision = codes "PRECISION"
statement_words single.Title = codes "TITLE"
statement_words single.SummaryReport = codes "DRC SUMMARY REPORT"
statement_words single.MaximumResults = codes "DRC MAXIMUM RESULTS"

abbrev pub counted_word : Counted → List ℕ
counted_word counted.Nesting = codes "Nesting"
counted_word counted.Operations = codes "Operations"
counted_word counted.Checks = codes "Checks"
counted_word counted.Outputs = codes "Outputs"
