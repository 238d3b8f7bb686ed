-- What is pushed, and the text of the checks that are left, make the whole.
use Rattle.std.proofs.Common.{◌≡◌, ◌++◌, drop, map}
use Rattle.std.specs.List.{flat_map}
use Rattle.drc_cli.specs.Text.{check_text}
use Rattle.drc_cli.specs.Working.TextView.{results_of}
use Rattle.drc_cli.proofs.text.push_checks.Given as goal

abbrev pub invariant-loop-check : goal.invariant-loop-check
invariant-loop-check l =
    l.text.items ++ flat_map check_text (map results_of (drop l.check-index l.checks)) ≡ l.initial.text.items ++ flat_map check_text (map results_of l.checks)
