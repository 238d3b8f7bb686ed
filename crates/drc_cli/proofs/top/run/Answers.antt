use Rattle.drc_ports.specs.Files.{world}
use Rattle.drc_cli.proofs.EndLaws.{says_words, must_say_words, has_done, unmade, complete, refused}
use Rattle.drc_cli.proofs.top.run.Goals as goal

pub returns-clause-words : goal.returns-clause-words
returns-clause-words g c =
    let old = world (g.F.Files.tally c.args.files.now) (g.F.Files.contents c.args.files.now) in
    let new = world (g.F.Files.tally c.answer.new.files) (g.F.Files.contents c.answer.new.files) in
    (says_words _ c.answer.result g.F.Files.tells old new c.answer.ensures, must_say_words _ c.answer.result g.F.Files.tells old new c.answer.ensures)

pub returns-clause-results : goal.returns-clause-results
returns-clause-results g c = λ told done.
    let old = world (g.F.Files.tally c.args.files.now) (g.F.Files.contents c.args.files.now) in
    let new = world (g.F.Files.tally c.answer.new.files) (g.F.Files.contents c.answer.new.files) in
    has_done _ c.answer.result g.F.Files.tells old new told done c.answer.ensures

pub returns-clause-unmade : goal.returns-clause-unmade
returns-clause-unmade g c = λ refusal.
    let old = world (g.F.Files.tally c.args.files.now) (g.F.Files.contents c.args.files.now) in
    let new = world (g.F.Files.tally c.answer.new.files) (g.F.Files.contents c.answer.new.files) in
    unmade _ c.answer.result g.F.Files.tells old new c.answer.ensures refusal

pub returns-clause-complete : goal.returns-clause-complete
returns-clause-complete g c = λ told outcome due none.
    let old = world (g.F.Files.tally c.args.files.now) (g.F.Files.contents c.args.files.now) in
    let new = world (g.F.Files.tally c.answer.new.files) (g.F.Files.contents c.answer.new.files) in
    complete c.one_outcome.ensures _ c.answer.result g.F.Files.tells old new told c.answer.ensures outcome due none

pub returns-clause-refused : goal.returns-clause-refused
returns-clause-refused g c = λ told outcome due refusal none.
    let old = world (g.F.Files.tally c.args.files.now) (g.F.Files.contents c.args.files.now) in
    let new = world (g.F.Files.tally c.answer.new.files) (g.F.Files.contents c.answer.new.files) in
    refused c.one_outcome.ensures _ c.answer.result g.F.Files.tells old new told c.answer.ensures outcome due refusal none
