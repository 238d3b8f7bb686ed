use Rattle.std.proofs.Common.{subst}
use Rattle.std.specs.Prelude.{Ok}
use Rattle.drc_cli.specs.declared.layout.reader.Step.{Step}
use Rattle.drc_cli.specs.Working.LayoutReading.{Sought, Steps}
use Rattle.drc_cli.proofs.layout.reader.Reader.take_all.Goals as goal

pub loop-stop-preserved : goal.loop-stop-preserved
loop-stop-preserved c = λ fed items state.
    let of : Sought = record { primary = c.args.primary.now; number = c.args.number } in
    let now = c.loop-stop.invariant fed items state in
    subst (λ (s : Step). Steps of fed (Ok s) c.step.new.self) c.in-Taken.is (c.in_ok-step.ensures.taken fed now.0 now.1)

pub returns-in-Wanting-clause-taken : goal.returns-in-Wanting-clause-taken
returns-in-Wanting-clause-taken c = λ fed items state.
    let of : Sought = record { primary = c.args.primary.now; number = c.args.number } in
    let now = c.loop-stop.invariant fed items state in
    subst (λ (s : Step). Steps of fed (Ok s) c.step.new.self) c.in-Wanting.is (c.in_ok-step.ensures.taken fed now.0 now.1)

pub returns-in-Stopped-clause-taken : goal.returns-in-Stopped-clause-taken
returns-in-Stopped-clause-taken c = λ fed items state.
    let of : Sought = record { primary = c.args.primary.now; number = c.args.number } in
    let now = c.loop-stop.invariant fed items state in
    subst (λ (s : Step). Steps of fed (Ok s) c.step.new.self) c.in-Stopped.is (c.in_ok-step.ensures.taken fed now.0 now.1)
