use Rattle.std.proofs.Common.{to_z, of_z, w64, ap, ◌∙◌}
use Rattle.list_facts.specs.EitherOr.{exactly_one}
use Rattle.row_state.specs.Entries.{value_from}
use Rattle.region_sweep.specs.Working.Ends.{odd_ends}
use Rattle.region_sweep.specs.Working.Sweeps.{turned}
use Rattle.region_sweep.proofs.Turned.{kept}
use Rattle.region_sweep.proofs.line.Sweeping.change_one.Goals as goal

pub returns-clause-ends : goal.returns-clause-ends
returns-clause-ends g c =
    let inside = g.E.Evaluator.inside c.args.evaluator.now in
    let makes = g.C.Change.makes c.args.change.now in
    let zero = g.V.Value.zero in
    let old = c.args.self.now in
    let x0 = to_z w64 (of_z w64 c.args.flip.now.x0) in
    let x1 = to_z w64 (of_z w64 c.args.flip.now.x1) in
    λ x. kept inside makes (value_from zero old.row) (value_from zero c.change.new.self) x0 x1 c.change.new.pieces.items (odd_ends old.pending.items x) (odd_ends c.turn_pieces.new.ends.items x) x c.in_ok-change.ensures.pieces (c.in_ok-change.ensures.row x)
    (c.in_ok-turn_pieces.ensures.odd x ∙ ap (λ ps. exactly_one (odd_ends old.pending.items x) (turned inside makes ps x)) c.deref.ensures.value)
