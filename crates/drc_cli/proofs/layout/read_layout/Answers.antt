use Rattle.std.proofs.Common.{sym, subst}
use Rattle.drc_cli.specs.declared.layout.reader.Stop.{Stop}
use Rattle.drc_cli.specs.Working.LayoutReading.{Sought, HasStopped, elements_of}
use Rattle.drc_cli.proofs.LayoutAnswers.{stopped_areas, stopped_covers, accepts}
use Rattle.drc_cli.proofs.layout.read_layout.Goals as goal

pub returns-in-Ended-clause-accepted : goal.returns-in-Ended-clause-accepted
returns-in-Ended-clause-accepted g c =
    let of : Sought = record { primary = c.args.primary.now; number = c.args.number } in
    let read = c.in_ok-stop.ensures.stopped in
    let rects = c.read_all.new.reader.rects.items in
    let stopped = subst (λ (stop : Stop). HasStopped of read.0 rects stop) c.in-Ended.is read.1 in
    (read.0, elements_of stopped.items, accepts of read.0 rects stopped, stopped_covers of read.0 rects _ stopped, λ told. sym (read.2 told))

pub returns-in-Ended-clause-areas : goal.returns-in-Ended-clause-areas
returns-in-Ended-clause-areas g c =
    let read = c.in_ok-stop.ensures.stopped in
    stopped_areas (record { primary = c.args.primary.now; number = c.args.number }) read.0 c.read_all.new.reader.rects.items c.in_ok-stop.stop read.1
