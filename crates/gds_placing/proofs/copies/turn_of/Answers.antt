use Rattle.drc_geom.specs.declared.turn.Turn.{Turn}
use Rattle.gds_placing.proofs.copies.turn_of.Goals as goal

pub returns-clause-value : goal.returns-clause-value
returns-clause-value c = λ i.
    let r : Turn = record { mirror = c.has_flag-mirror.ensures i; quarter = c.quarter_of-quarter.ensures.said i } in
    r
