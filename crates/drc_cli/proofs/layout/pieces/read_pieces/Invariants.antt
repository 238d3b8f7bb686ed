use Rattle.drc_cli.proofs.LayoutPieces.{SoFar}
use Rattle.drc_cli.proofs.layout.pieces.read_pieces.Given as goal

abbrev pub invariant-loop-turn : goal.invariant-loop-turn
invariant-loop-turn g l =
    SoFar (record { primary = l.primary; number = l.number })
    (record {
      tells = g.F.Files.tells;
      start = g.F.Files.contents l.fn.files;
      now = g.F.Files.contents l.files;
      before = g.F.Files.tally l.fn.files;
      after = g.F.Files.tally l.files;
      count = l._turn;
    })
    l.reader
