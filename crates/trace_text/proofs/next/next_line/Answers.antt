use Rattle.std.proofs.Common.{sym, ◌∙◌}
use Rattle.trace_text.proofs.FrontLaws.{not_admitted}
use Rattle.trace_text.proofs.next.next_line.Goals as goal

pub returns-else-admits : goal.returns-else-admits
returns-else-admits c l rest b a =
    not_admitted c.args.place c.args.costs c.args.text.now c.in_ok-line.line l c.in_ok-line.rest.now rest c.in_ok-line.ensures.found (sym c.admits.ensures ∙ c.if-admits.false) b a
