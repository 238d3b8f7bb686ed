-- The sums over the checks so far, each of fewer than 2^64 results.
use Rattle.std.proofs.Common.{◌≡◌, ◌*◌, ◌^◌, ◌≤◌, take, map, sum_by}
use Rattle.drc_cli.specs.Text.{found_of, written_of}
use Rattle.drc_cli.specs.Working.TextView.{results_of}
use Rattle.drc_cli.proofs.text.totals_of.Given as goal

abbrev pub invariant-loop-check : goal.invariant-loop-check
invariant-loop-check l =
    (l.found ≡ sum_by found_of (map results_of (take l.check-index l.checks)))
    × (l.written ≡ sum_by written_of (map results_of (take l.check-index l.checks)))
    × (l.found ≤ 2 ^ 64 * l.check-index) × (l.written ≤ 2 ^ 64 * l.check-index)
