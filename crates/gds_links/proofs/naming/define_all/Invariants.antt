-- The names that were defined, and those that are left, make the whole.
use Rattle.std.proofs.Common.{◌≡◌, ◌++◌, drop, length, map}
use Rattle.gds_links.specs.Working.Naming.{key_of, kept_key}
use Rattle.gds_links.proofs.naming.define_all.Given as goal

abbrev pub invariant-loop-structure : goal.invariant-loop-structure
invariant-loop-structure l =
    (map kept_key l.names.definitions ++ map key_of (drop l.structure-index l.structures) ≡ map key_of l.structures)
    × (length l.names.definitions ≡ l.structure-index)
