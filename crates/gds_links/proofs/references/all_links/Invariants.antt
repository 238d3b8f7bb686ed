-- The links that were found, and those that are left, make the whole.
use Rattle.std.proofs.Common.{◌≡◌, ◌++◌, drop, map}
use Rattle.gds_links.specs.Links.{listed}
use Rattle.gds_links.specs.Working.Naming.{links_by}
use Rattle.gds_links.proofs.references.all_links.Given as goal

abbrev pub invariant-loop-structure : goal.invariant-loop-structure
invariant-loop-structure l =
    listed l.links.items ++ map (links_by l.names.definitions) (drop l.structure-index l.structures)
    ≡ map (links_by l.names.definitions) l.structures
