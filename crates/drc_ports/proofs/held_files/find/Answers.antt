use Rattle.std.proofs.Common.{◌≡◌, ◌<◌, ◌∙◌, sym, true, length, arith}
use Rattle.std.specs.Str.{bytes_eq}
use Rattle.drc_ports.proofs.Held.{here}
use Rattle.drc_ports.proofs.held_files.find.Goals as goal

pub returns-then-eq-clause-found : goal.returns-then-eq-clause-found
returns-then-eq-clause-found c =
    let within : c.loop-at.at < length c.args.files.now = omega arith in
    let same : bytes_eq c.index-files-at.result.name c.args.name.now ≡ true = cc in
    sym (here c.args.files.now c.loop-at.at c.args.name.now c.index-files-at.result within c.index-files-at.is same) ∙ c.loop-at.invariant
