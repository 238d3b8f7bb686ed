-- A command without where its texts lie in memory, and the settings that are read of its words.
use Rattle.std.specs.Prelude.{◌≡◌, List, [], ◌∷◌, ◌++◌, Bool, true, false, codes}
use Rattle.std.specs.Option.{option_copied}
use Rattle.drc_cli.specs.declared.command.CheckRequest.{CheckRequest as Request}
use Rattle.drc_cli.specs.declared.command.FormatRequest.{FormatRequest as FormatAsked}
use Rattle.drc_cli.specs.declared.command.CheckSettings.{CheckSettings}
use Rattle.drc_cli.specs.declared.command.Command.{Command as Asked}
use Rattle.drc_cli.specs.declared.command.Command.TheVariants.{Check, Format}
use Rattle.drc_cli.specs.Command.{CheckRequest, FormatRequest, Command, check, format, Setting, AreServed, value_in}

abbrev pub request_of : Request → CheckRequest
request_of request = record { date = request.date.now; deck = request.deck.now }

abbrev pub format_of : FormatAsked → FormatRequest
format_of request = record { deck = request.deck.now }

abbrev pub command_of : Asked → Command
command_of (Check request) = check (request_of request)
command_of (Format request) = format (format_of request)

-- what was found is what these settings say, which are served
pub record HasSettings (settings : List Setting) (found : CheckSettings) : Type 0 where
  pub served : AreServed settings
  pub date : option_copied found.date ≡ value_in settings (codes "--date")

-- one setting more, which is served and wasn't set before; or nothing, where it isn't served or was set
abbrev pub TakesSetting : Setting → Bool → CheckSettings → CheckSettings → Type 0
TakesSetting setting true old new =
    (settings : List Setting) → HasSettings settings old → HasSettings (settings ++ setting ∷ []) new
TakesSetting setting false old new =
    (settings : List Setting) → HasSettings settings old → (more : List Setting) → AreServed (settings ++ setting ∷ more) → ⊥
