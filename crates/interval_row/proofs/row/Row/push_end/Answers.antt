use Rattle.std.proofs.lemmas.Int.{to_z-of_z}
use Rattle.interval_row.proofs.Places.{row_push}
use Rattle.interval_row.proofs.row.Row.push_end.Goals as goal

pub invariant_of-self-2 : goal.invariant_of-self-2
invariant_of-self-2 c =
    let f = c.ranges.lo in
    let g = c.ranges.hi in
    rw c.in_ok-push.ensures.items (simp to_z-of_z (row_push _ _ c.self.invariant (rw c.self.view_is c.requires.behind) c.requires.not_empty))
