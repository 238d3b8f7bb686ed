use Rattle.gds_placing.specs.Facts.{facts_of}
use Rattle.gds_placing.proofs.FirstFacts.{none_first, may_be_drawn}
use Rattle.gds_placing.proofs.facts.copies_in.Goals as goal

pub returns-in-None-clause-fine : goal.returns-in-None-clause-fine
returns-in-None-clause-fine c =
    none_first (facts_of c.args.outer.now c.args.instance.now c.args.points.now) c.in-None.ensures

pub returns-in-None-clause-allowed : goal.returns-in-None-clause-allowed
returns-in-None-clause-allowed c =
    let made = c.copies_of-copies.ensures in
    let copies = c.copies_of-copies.result in
    may_be_drawn c.args.outer.now c.args.instance.now c.args.points.now copies made.value c.requires.magnified
    (record { near = made.near; turned = made.turned; drawn = made.drawn }) (returns-in-None-clause-fine c)
