use Rattle.std.proofs.Common.{sym, subst}
use Rattle.deck_order.specs.Uses.{AreWithin}
use Rattle.deck_definitions.specs.Definitions.{shown}
use Rattle.deck_graph.proofs.Graphs.{uses_within}
use Rattle.deck_graph.proofs.graph.Graph.uses.Goals as goal

pub returns-clause-within : goal.returns-clause-within
returns-clause-within c =
    subst AreWithin (sym c.deref.ensures.value)
    (uses_within (shown c.self.inside.definitions.items) c.self.inside.uses.items c.self.invariant.uses_are)
