-- What the words of the command line ask for: `check { OPTION VALUE } DECK`, where the options stand in any order, each at
-- most once, and the one that is served is `--date TEXT`; or `fmt DECK`.
use Rattle.std.specs.Prelude.{◌≡◌, ◌≢◌, ℕ, ◌<◌, ◌≤◌, List, [], ◌∷◌, ◌++◌, length, codes, Option, Some, None, unwrap_or, if◌then◌else◌}
use Rattle.std.specs.List.{AllPass}
use Rattle.std.specs.Str.{bytes_eq}
use Rattle.drc_cli.specs.Printable.{is_printable}

-- ---- What is asked for

-- a check of the deck of this name, with the date that its results bear
pub record CheckRequest : Type 0 where
  pub date : List ℕ
  pub deck : List ℕ

-- the canonical text of the deck of this name
pub record FormatRequest : Type 0 where
  pub deck : List ℕ

-- a command, and what it is asked to do
pub data Command : Type 0 where
  check : CheckRequest → Command
  format : FormatRequest → Command

-- ---- Options

-- an option and its value
pub record Setting : Type 0 where
  pub option : List ℕ
  pub value : List ℕ

-- the words of settings
abbrev pub words_of : List Setting → List (List ℕ)
words_of [] = []
words_of (setting ∷ settings) = setting.option ∷ setting.value ∷ words_of settings

-- the value that an option is set to
abbrev pub value_in : List Setting → (option : List ℕ) → Option (List ℕ)
value_in [] option = None
value_in (setting ∷ settings) option = if bytes_eq setting.option option then Some setting.value else value_in settings option

-- 1 to 40 printable bytes
pub record IsDate (text : List ℕ) : Type 0 where
  pub some : 0 < length text
  pub short : length text ≤ 40
  pub printable : AllPass is_printable text

-- the date where none is given
abbrev pub no_date : List ℕ
no_date = codes "Jan 1 00:00:00 1970"

-- ---- The command `check`

-- a word that may name a file: it isn't empty and doesn't begin with `-`
abbrev pub IsFileWord : List ℕ → Type 0
IsFileWord [] = ⊥
IsFileWord (byte ∷ bytes) = byte ≢ 45

-- an option of `check` with a value that it may have: one row for each option
abbrev pub IsServedOption : Setting → Type 0
IsServedOption setting = (setting.option ≡ codes "--date") × IsDate setting.value

-- each is served, and no option is set again behind it
abbrev pub AreServed : List Setting → Type 0
AreServed [] = Unit {0}
AreServed (setting ∷ settings) = IsServedOption setting × (value_in settings setting.option ≡ None) × AreServed settings

-- the words ask for this check
pub record AsksForCheck (words : List (List ℕ)) (request : CheckRequest) : Type 0 where
  pub settings : List Setting
  pub spelled : words ≡ codes "check" ∷ words_of settings ++ (request.deck ∷ [])
  pub served : AreServed settings
  pub deck : IsFileWord request.deck
  pub date : request.date ≡ unwrap_or (value_in settings (codes "--date")) no_date

-- ---- The command `fmt`

-- the words ask for this deck's canonical text
pub record AsksForFormat (words : List (List ℕ)) (request : FormatRequest) : Type 0 where
  pub spelled : words ≡ codes "fmt" ∷ request.deck ∷ []
  pub deck : IsFileWord request.deck

-- ---- All commands

-- the words ask for this command: one line for each command
abbrev pub Asks : (words : List (List ℕ)) → Command → Type 0
Asks words (check request) = AsksForCheck words request
Asks words (format request) = AsksForFormat words request

-- the words ask for nothing that is served
abbrev pub AreRefused : List (List ℕ) → Type 0
AreRefused words = (command : Command) → Asks words command → ⊥
