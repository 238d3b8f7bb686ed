use Rattle.std.proofs.Common.{◌≡◌, drop, ◌++◌}
use Rattle.region_form.specs.Working.Changes.{spans_up_to}
use Rattle.region_form.proofs.change.row_up_to.Given as goal

abbrev pub invariant-loop-flip : goal.invariant-loop-flip
invariant-loop-flip l =
    l.row ++ spans_up_to l.line (drop l.flip-index l.flips) ≡ spans_up_to l.line l.flips
