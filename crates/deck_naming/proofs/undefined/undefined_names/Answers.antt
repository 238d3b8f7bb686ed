use Rattle.std.proofs.Common.{length, sym, ap, ◌∙◌}
use Rattle.std.specs.List.{flat_map}
use Rattle.deck_graph.specs.Graphs.{Outline}
use Rattle.deck_naming.specs.Undefined.{checked}
use Rattle.deck_naming.proofs.Checks.{as_many}
use Rattle.deck_naming.proofs.undefined.undefined_names.Goals as goal

pub push_checks-requires : goal.push_checks-requires
push_checks-requires c =
    ap (λ (o : Outline). o.checks) c.requires
    ∙ (sym (as_many c.args.deck.now.statements) ∙ ap (λ statements. length (flat_map checked statements)) (sym c.as_slice.ensures))
