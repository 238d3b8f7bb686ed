use Rattle.std.proofs.Common.{◌≡◌, subst}
use Rattle.interval_row.specs.Rows.{has}
use Rattle.region_form.specs.Climbs.{ahead}
use Rattle.region_form.proofs.FlipLines.{seen_row}
use Rattle.region_form.proofs.climb.Climb.next_line.Goals as goal

-- src/climb.rt:44:5
pub returns-clause-row : goal.returns-clause-row
returns-clause-row c x y b =
    subst (λ p. ahead p x y ≡ has p.row x) c.self.view_is
    (seen_row (record { row = c.self.inside.row; flips = c.self.inside.flips.now }) c.first_line.result x y c.first_line.ensures c.self.invariant b)
