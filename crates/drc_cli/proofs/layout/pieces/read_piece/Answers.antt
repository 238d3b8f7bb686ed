use Rattle.std.proofs.Common.{◌≡◌, ℕ, ◌<◌, ◌++◌, List, length, take, arith, ap, sym, ◌∙◌, length-take}
use Rattle.std.proofs.lemmas.Grind.{common_steps}
use Rattle.gds_records.specs.Stream.{Stream}
use Rattle.drc_ports.specs.Files.{Contents}
use Rattle.drc_cli.specs.declared.layout.reader.Reader.{Reader}
use Rattle.drc_cli.specs.Working.LayoutReading.{Sought, Left}
use Rattle.drc_cli.proofs.LayoutPieces.{piece_failed, state_fed, piece_taken}
use Rattle.drc_cli.proofs.layout.pieces.read_piece.Goals as goal

pub returns-in_default-clause-read : goal.returns-in_default-clause-read
returns-in_default-clause-read g c = λ fed wants.
    piece_failed (record { primary = c.args.primary.now; number = c.args.number }) fed c.args.reader.now wants
    (record { tells = g.F.Files.tells; before = (g.F.Files.contents c.args.files.now).left; now = (g.F.Files.contents c.read.new.self).left })

pub returns-clause-read : goal.returns-clause-read
returns-clause-read g c = λ fed wants.
    let of : Sought = record { primary = c.args.primary.now; number = c.args.number } in
    let left : Left = record { tells = g.F.Files.tells; before = (g.F.Files.contents c.args.files.now).left; now = (g.F.Files.contents c.read.new.self).left } in
    let reader = c.args.reader.now in
    let fed_reader : Reader = record reader { framer = c.feed.new.self } in
    let piece = take c.in-Ok.count c.read.new.buf in
    let took : c.feed.new.self ≡ record (reader.framer) { left = reader.framer.left ++ piece } = grind (arith, common_steps, c.in_ok-feed.ensures.ok) in
    let some : 0 < length piece = simp length-take (omega (arith, c.in-Ok.ensures.count)) in
    let state = state_fed of fed reader wants piece fed_reader (ap (λ (s : Stream). record reader { framer = s }) took) in
    piece_taken of fed piece left c.take_all.result c.take_all.new.self some
    (λ t. let read = c.in-Ok.ensures.bytes t in read.1 ∙ ap (λ (rest : List ℕ). piece ++ rest) (sym (ap (λ (k : Contents). k.left) read.3)))
    (c.take_all.ensures.taken (fed ++ piece) wants.items state)
