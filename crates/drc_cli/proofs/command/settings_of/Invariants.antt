use Rattle.std.proofs.Common.{◌≡◌, List, ◌++◌, map, string_bytes, length}
use Rattle.drc_cli.specs.Command.{Setting, words_of}
use Rattle.drc_cli.specs.Working.CommandView.{HasSettings}
use Rattle.drc_cli.proofs.command.settings_of.Given as goal

-- some settings were read, and the words behind them are left
abbrev pub invariant-pairs : goal.invariant-pairs
invariant-pairs l =
    (before : List Setting) × HasSettings before l.settings × (map string_bytes l.words ≡ words_of before ++ map string_bytes l.rest)

abbrev pub decreases-pairs : goal.decreases-pairs
decreases-pairs l = length l.rest
