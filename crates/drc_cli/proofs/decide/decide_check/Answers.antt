use Rattle.drc_ports.specs.Files.{world}
use Rattle.drc_cli.specs.Command.{check}
use Rattle.drc_cli.specs.Working.CommandView.{request_of}
use Rattle.drc_cli.proofs.Decided.{deck_ended, deck_unserved, layout_ended, ready_to_write}
use Rattle.drc_cli.proofs.decide.decide_check.Goals as goal

pub returns-in-Err : goal.returns-in-Err
returns-in-Err g c = deck_ended (check (request_of c.args.request.now)) c.in-Err.ending g.F.Files.tells
    (world (g.F.Files.tally c.args.files.now) (g.F.Files.contents c.args.files.now))
    (world (g.F.Files.tally c.read_deck.new.files) (g.F.Files.contents c.read_deck.new.files)) c.in-Err.ensures

pub returns-in-None : goal.returns-in-None
returns-in-None g c = deck_unserved (request_of c.args.request.now) c.in-Ok.deck _ g.F.Files.tells
    (world (g.F.Files.tally c.args.files.now) (g.F.Files.contents c.args.files.now))
    (world (g.F.Files.tally c.read_deck.new.files) (g.F.Files.contents c.read_deck.new.files)) c.in-Ok.ensures
    (rw (← c.as_bytes.ensures.value) c.in-None.ensures.none) c.in_ok-new-in-None.ensures

pub returns-in-Err-layout_rects : goal.returns-in-Err-layout_rects
returns-in-Err-layout_rects g c = layout_ended (request_of c.args.request.now) g.F.Files.tells
    (world (g.F.Files.tally c.args.files.now) (g.F.Files.contents c.args.files.now))
    (world (g.F.Files.tally c.read_deck.new.files) (g.F.Files.contents c.read_deck.new.files))
    (world (g.F.Files.tally c.layout_rects.new.files) (g.F.Files.contents c.layout_rects.new.files))
    c.in-Ok.deck c.in-Ok.ensures c.in-Some.found (rw (← c.as_bytes.ensures.value) c.in-Some.ensures.found)
    c.in-Err-layout_rects.ending c.in-Err-layout_rects.ensures.read

pub returns : goal.returns
returns g c = ready_to_write (request_of c.args.request.now) g.F.Files.tells
    (world (g.F.Files.tally c.args.files.now) (g.F.Files.contents c.args.files.now))
    (world (g.F.Files.tally c.read_deck.new.files) (g.F.Files.contents c.read_deck.new.files))
    (world (g.F.Files.tally c.layout_rects.new.files) (g.F.Files.contents c.layout_rects.new.files))
    c.in-Ok.deck c.in-Ok.ensures c.in-Some.found (rw (← c.as_bytes.ensures.value) c.in-Some.ensures.found)
    c.in-Ok-layout_rects.rects c.in_ok-ready-in-Ok-layout_rects.field-0 c.in-Ok-layout_rects.ensures.read c.in_ok-ready-in-Ok-layout_rects.ensures
