use Rattle.std.proofs.Common.{ap, ◌∙◌}
use Rattle.deck_definitions.specs.Definitions.{shown}
use Rattle.deck_graph.specs.Graphs.{Outline, number_for}
use Rattle.deck_graph.proofs.Graphs.{same_number}
use Rattle.deck_graph.proofs.graph.Graph.find.Goals as goal

pub returns : goal.returns
returns c =
    c.find.ensures
    ∙ (same_number c.self.inside.names.definitions (shown c.self.inside.definitions.items) c.self.invariant.names_are c.args.from c.args.name.now
    ∙ ap (λ (o : Outline). number_for o.definitions c.args.from c.args.name.now) c.self.view_is)
