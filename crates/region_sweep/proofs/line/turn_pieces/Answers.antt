use Rattle.std.proofs.Common.{◌+◌, ◌∷◌, [], drop, sym, ap, ◌∙◌}
use Rattle.std.proofs.lemmas.List.{drop_more, drop_all}
use Rattle.list_facts.specs.EitherOr.{exactly_one}
use Rattle.list_facts.proofs.EitherOr.{one_right_false}
use Rattle.region_sweep.specs.Working.Ends.{odd_ends}
use Rattle.region_sweep.specs.Working.Sweeps.{turned}
use Rattle.region_sweep.proofs.EndFlips.{one_left}
use Rattle.region_sweep.proofs.Turned.{turned_more}
use Rattle.region_sweep.proofs.line.turn_pieces.Goals as goal

pub loop-piece-preserved : goal.loop-piece-preserved
loop-piece-preserved g c =
    let inside = g.E.Evaluator.inside c.args.evaluator.now in
    let makes = g.C.Change.makes c.args.change.now in
    let pieces = c.args.pieces.now in
    let i = c.loop-piece.piece-index in
    let rest = drop (i + 1) pieces in
    let more = drop_more pieces i c.piece-item.result c.loop-piece-test.true ∙ ap (λ p. p ∷ rest) (sym c.piece-item.is) in (
      λ x. one_left (odd_ends c.loop-piece.ends.items x) (odd_ends c.turn_piece.new.ends.items x) _ (turned inside makes (c.piece-item.result ∷ []) x) (turned inside makes rest x)
          (sym (ap (exactly_one (odd_ends c.loop-piece.ends.items x)) (ap (λ ps. turned inside makes ps x) more ∙ turned_more inside makes c.piece-item.result rest x)) ∙ c.loop-piece.invariant.0 x) (c.in_ok-turn_piece.ensures.odd x),
      c.in_ok-turn_piece.ensures.number ∙ c.loop-piece.invariant.1,
    )

pub returns-clause-odd : goal.returns-clause-odd
returns-clause-odd g c =
    let inside = g.E.Evaluator.inside c.args.evaluator.now in
    let makes = g.C.Change.makes c.args.change.now in
    λ x. sym (one_right_false (odd_ends c.loop-piece.ends.items x)) ∙ (sym (ap (λ ps. exactly_one (odd_ends c.loop-piece.ends.items x) (turned inside makes ps x)) (drop_all c.loop-piece.piece-index c.args.pieces.now c.loop-piece-test.false)) ∙ c.loop-piece.invariant.0 x)
