use Rattle.std.proofs.Common.{◌≡◌, ◌++◌, take}
use Rattle.region_form.specs.LineFlips.{flips_on}
use Rattle.region_form.proofs.line_flips.push_spans.Given as goal

abbrev pub invariant-loop-span : goal.invariant-loop-span
invariant-loop-span l = l.flips.items ≡ l.initial.flips.items ++ flips_on l.line (take l.span-index l.spans)
