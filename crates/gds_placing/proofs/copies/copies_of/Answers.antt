use Rattle.std.proofs.Common.{◌∙◌}
use Rattle.gds_placing.specs.declared.copies.Copies.{Copies}
use Rattle.gds_placing.specs.Copies.{divided}
use Rattle.gds_placing.proofs.copies.copies_of.Goals as goal

pub returns-clause-value : goal.returns-clause-value
returns-clause-value c =
    let columns = c.columns-columns.ensures.said in
    let rows = c.rows-rows.ensures.said in
    let across = c.displacement-across.ensures.said in
    let up = c.displacement-up.ensures.said in
    let column_pitch = c.divided-column_pitch.ensures.value ∙ (λ i. divided (across i) (columns i)) in
    let row_pitch = c.divided-row_pitch.ensures.value ∙ (λ i. divided (up i) (rows i)) in
    λ i.
    let r : Copies = record {
      turn = c.turn_of-turn.ensures.value i;
      magnification = c.magnification_of-magnification.ensures.said i;
      origin = c.point_at-origin.ensures.said i;
      columns = columns i;
      rows = rows i;
      column_pitch = column_pitch i;
      row_pitch = row_pitch i;
    } in
    r

pub returns-clause-near : goal.returns-clause-near
returns-clause-near c = record {
  origin = c.point_at-origin.ensures.near;
  columns = c.divided-column_pitch.ensures.near;
  rows = c.divided-row_pitch.ensures.near;
}
