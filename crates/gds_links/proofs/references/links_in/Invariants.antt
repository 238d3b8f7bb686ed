-- The links that were found, and those that are left, make the whole.
use Rattle.std.proofs.Common.{◌≡◌, ◌++◌, drop}
use Rattle.std.specs.List.{filter_map}
use Rattle.gds_links.specs.Working.Naming.{link_by, links_by}
use Rattle.gds_links.proofs.references.links_in.Given as goal

abbrev pub invariant-loop-index : goal.invariant-loop-index
invariant-loop-index l =
    l.links.items ++ filter_map (link_by l.names.definitions) (drop l.index l.structure.elements)
    ≡ links_by l.names.definitions l.structure
