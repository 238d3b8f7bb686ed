use Rattle.std.proofs.Common.{◌≡◌, subst}
use Rattle.std.specs.Prelude.{Option, Ok}
use Rattle.drc_cli.specs.declared.layout.reader.Stop.{Stop}
use Rattle.drc_cli.specs.Working.LayoutReading.{Sought, Left, ReadsPiece, piece_tally}
use Rattle.drc_cli.proofs.LayoutPieces.{stops, goes_further}
use Rattle.drc_cli.proofs.layout.pieces.read_pieces.Goals as goal

pub returns-in-Some-clause-stopped : goal.returns-in-Some-clause-stopped
returns-in-Some-clause-stopped g c =
    let l = c.loop-turn in
    let of : Sought = record { primary = c.args.primary.now; number = c.args.number } in
    let after = (g.F.Files.contents c.read_piece.new.files).left in
    let left : Left = record { tells = g.F.Files.tells; before = (g.F.Files.contents l.files).left; now = after } in
    let read = subst (λ (o : Option Stop). ReadsPiece of l.invariant.fed left (Ok o) c.read_piece.new.reader) c.in-Some.is (c.in_ok-read.ensures.read l.invariant.fed l.invariant.wants) in
    stops of _ l.reader l.invariant after c.in-Some.stop c.read_piece.new.reader read

pub loop-turn-preserved : goal.loop-turn-preserved
loop-turn-preserved g c =
    let l = c.loop-turn in
    let of : Sought = record { primary = c.args.primary.now; number = c.args.number } in
    let next = g.F.Files.contents c.read_piece.new.files in
    let left : Left = record { tells = g.F.Files.tells; before = (g.F.Files.contents l.files).left; now = next.left } in
    let read = subst (λ (o : Option Stop). ReadsPiece of l.invariant.fed left (Ok o) c.read_piece.new.reader) c.in_default.is (c.in_ok-read.ensures.read l.invariant.fed l.invariant.wants) in
    let tally = subst (λ (o : Option Stop). g.F.Files.tally c.read_piece.new.files ≡ piece_tally (Ok o) (g.F.Files.tally l.files)) c.in_default.is c.in_ok-read.ensures.counts in
    goes_further of _ l.reader l.invariant next (g.F.Files.tally c.read_piece.new.files) c.read_piece.new.reader read c.in_ok-read.ensures.same tally
