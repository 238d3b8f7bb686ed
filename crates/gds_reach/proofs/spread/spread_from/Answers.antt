use Rattle.std.proofs.Common.{◌≡◌, subst}
use Rattle.gds_reach.specs.Working.Marks.{IsMarked}
use Rattle.gds_reach.proofs.Spreading.{begun, ended_closed, ended_each}
use Rattle.gds_reach.proofs.spread.spread_from.Goals as goal

pub go_on-requires-clause-met : goal.go_on-requires-clause-met
go_on-requires-clause-met c =
    let marked = subst (λ xs. IsMarked (λ i. i ≡ c.args.from) c.args.flags.now xs c.mark.new.flags c.mark.new.waiting.items) c.new-waiting.ensures.items c.in_ok-mark.ensures in
    begun c.args.flags.now c.mark.new.flags c.mark.new.waiting.items c.args.from c.requires.closed marked

pub returns-clause-closed : goal.returns-clause-closed
returns-clause-closed c = ended_closed c.mark.new.flags c.go_on.new.flags c.go_on.new.waiting.items c.in_ok-go_on.ensures.spread c.in_ok-go_on.ensures.rests

pub returns-clause-each : goal.returns-clause-each
returns-clause-each c =
    let marked = subst (λ xs. IsMarked (λ i. i ≡ c.args.from) c.args.flags.now xs c.mark.new.flags c.mark.new.waiting.items) c.new-waiting.ensures.items c.in_ok-mark.ensures in
    ended_each c.args.flags.now c.mark.new.flags c.go_on.new.flags c.mark.new.waiting.items c.go_on.new.waiting.items c.args.from c.requires.closed marked c.in_ok-go_on.ensures.spread c.in_ok-go_on.ensures.rests
