use Rattle.std.proofs.Common.{List, ℕ, subst}
use Rattle.drc_ports.specs.Files.{world}
use Rattle.drc_cli.specs.Working.Decide.{IsDeckParsed}
use Rattle.drc_cli.proofs.DeckRead.{text_ended, parsed}
use Rattle.drc_cli.proofs.deck_text.read_deck.Goals as goal

pub returns-in-Err : goal.returns-in-Err
returns-in-Err g c = text_ended c.args.name.now c.in-Err.ending g.F.Files.tells
    (world (g.F.Files.tally c.args.files.now) (g.F.Files.contents c.args.files.now))
    (world (g.F.Files.tally c.read_text.new.files) (g.F.Files.contents c.read_text.new.files)) c.in-Err.ensures

pub returns-in-Ok : goal.returns-in-Ok
returns-in-Ok g c = parsed c.args.name.now c.in-Ok.text g.F.Files.tells
    (world (g.F.Files.tally c.args.files.now) (g.F.Files.contents c.args.files.now))
    (world (g.F.Files.tally c.read_text.new.files) (g.F.Files.contents c.read_text.new.files)) c.in-Ok.ensures c.deck_of.result
    (subst (λ (t : List ℕ). IsDeckParsed t c.deck_of.result) c.deref.ensures.value c.deck_of.ensures)
