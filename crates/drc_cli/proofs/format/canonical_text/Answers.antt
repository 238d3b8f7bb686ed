use Rattle.drc_ports.specs.Files.{world}
use Rattle.drc_cli.specs.Command.{format}
use Rattle.drc_cli.specs.Working.CommandView.{format_of}
use Rattle.drc_cli.proofs.Decided.{deck_ended, printed}
use Rattle.drc_cli.proofs.format.canonical_text.Goals as goal

pub returns-in-Err : goal.returns-in-Err
returns-in-Err g c = deck_ended (format (format_of c.args.request.now)) c.in-Err.ending g.F.Files.tells
    (world (g.F.Files.tally c.args.files.now) (g.F.Files.contents c.args.files.now))
    (world (g.F.Files.tally c.read_deck.new.files) (g.F.Files.contents c.read_deck.new.files)) c.in-Err.ensures

pub returns-in_ok-print-in-Ok : goal.returns-in_ok-print-in-Ok
returns-in_ok-print-in-Ok g c = printed (format_of c.args.request.now) c.in-Ok.deck c.in_ok-print-in-Ok.field-0 g.F.Files.tells
    (world (g.F.Files.tally c.args.files.now) (g.F.Files.contents c.args.files.now))
    (world (g.F.Files.tally c.read_deck.new.files) (g.F.Files.contents c.read_deck.new.files)) c.in-Ok.ensures c.in_ok-print-in-Ok.ensures
