use Rattle.std.proofs.Common.{◌≡◌, drop}
use Rattle.drc_ports.specs.Held.{first_of}
use Rattle.drc_ports.proofs.held_files.find.Given as goal

abbrev pub invariant-loop-at : goal.invariant-loop-at
invariant-loop-at l = first_of (drop l.at l.files) l.name ≡ first_of l.files l.name
