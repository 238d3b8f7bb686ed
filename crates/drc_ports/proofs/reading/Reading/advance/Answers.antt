use Rattle.std.proofs.Common.{◌≡◌, ◌≤◌, ◌-◌, length, drop, ◌∙◌, sym, arith, length-drop}
use Rattle.std.proofs.lemmas.List.{length-take}
use Rattle.drc_ports.specs.Held.{bytes_at}
use Rattle.drc_ports.proofs.Held.{bytes_found}
use Rattle.drc_ports.proofs.Pieces.{copied}
use Rattle.drc_ports.proofs.reading.Reading.advance.Goals as goal

pub returns-clause-taken : goal.returns-clause-taken
returns-clause-taken c =
    let bytes = c.deref.result.now in
    let found : bytes_at c.args.self.now.file c.args.files.now ≡ bytes = bytes_found c.args.files.now c.args.self.now.file c.in-Some.file.now c.in-Some.ensures.lookup.3.0 c.in-Some.ensures.lookup.1 ∙ sym c.deref.ensures.value in
    let fits : c.min-count.result ≤ length bytes - c.args.self.now.position = omega (arith, length-drop c.args.self.now.position bytes, length-take (length bytes - c.args.self.now.position) (drop c.args.self.now.position bytes)) in
    let cut = copied bytes c.args.self.now.position c.min-count.result c.copy_from_slice.new.self (drop c.min-count.result c.args.buf.now) fits c.copy_from_slice.ensures.after in
    rw found cut
