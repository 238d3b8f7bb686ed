use Rattle.std.proofs.Common.{◌+◌, map}
use Rattle.std.proofs.lemmas.Result.{err_from_is_err_and}
use Rattle.gds_records.specs.Stream.{item_of}
use Rattle.gds_records.proofs.Taking.{taken-piece, taken-all, refused-early, is_library, library-only, truncated-at_end}
use Rattle.gds_records.proofs.stream.records.Goals as goal

pub returns-in_err-take_whole-clause-refused : goal.returns-in_err-take_whole-clause-refused
returns-in_err-take_whole-clause-refused c =
    let p = err_from_is_err_and c.from_residual-in_err-take_whole.result c.from_residual-in_err-take_whole.ensures.1 in
    let n = c.loop-piece.piece-index in
    let fed = taken-piece (λ piece. piece.items) c.args.pieces.now n c.piece-item.result c.deref.result.now (map item_of c.loop-piece.taken.items) c.loop-piece.framer c.feed.new.self c.loop-piece-test.true c.piece-item.is c.deref.ensures.value c.in_ok-feed.ensures.ok c.loop-piece.invariant.0 in
    rw (p.1, p.2) (refused-early (λ piece. piece.items) c.args.pieces.now (n + 1) c.in_err-take_whole.field-0.0 (map item_of c.take_whole.new.taken.items) c.take_whole.new.framer (c.in_err-take_whole.ensures _ fed))

pub loop-piece-preserved : goal.loop-piece-preserved
loop-piece-preserved c =
    let fed = taken-piece (λ piece. piece.items) c.args.pieces.now c.loop-piece.piece-index c.piece-item.result c.deref.result.now (map item_of c.loop-piece.taken.items) c.loop-piece.framer c.feed.new.self c.loop-piece-test.true c.piece-item.is c.deref.ensures.value c.in_ok-feed.ensures.ok c.loop-piece.invariant.0 in
    c.in_ok-take_whole.ensures _ fed

pub returns-in-None-clause-only : goal.returns-in-None-clause-only
returns-in-None-clause-only c = λ others rest other.
    let taken = taken-all (λ piece. piece.items) c.args.pieces.now c.loop-piece.piece-index (map item_of c.loop-piece.taken.items) c.loop-piece.framer c.loop-piece-test.false c.loop-piece.invariant.0 in
    library-only _ (map item_of c.loop-piece.taken.items) others rest (is_library _ (map item_of c.loop-piece.taken.items) c.loop-piece.framer taken c.in-None.ensures) other

pub returns-clause-refused : goal.returns-clause-refused
returns-clause-refused c =
    let taken = taken-all (λ piece. piece.items) c.args.pieces.now c.loop-piece.piece-index (map item_of c.loop-piece.taken.items) c.loop-piece.framer c.loop-piece-test.false c.loop-piece.invariant.0 in
    truncated-at_end _ (map item_of c.loop-piece.taken.items) c.loop-piece.framer c.in-Some.refusal taken c.loop-piece.invariant.1 c.in-Some.ensures
