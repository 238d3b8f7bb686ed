-- The facts that were pushed, and those that are left, make the whole.
use Rattle.std.proofs.Common.{◌≡◌, ◌++◌, drop}
use Rattle.deck_uses.specs.UsedNames.{shown}
use Rattle.deck_naming.specs.Undefined.{undefined_in}
use Rattle.deck_naming.proofs.undefined.push_undefined.Given as goal

abbrev pub invariant-loop-name : goal.invariant-loop-name
invariant-loop-name l =
    l.facts.items ++ undefined_in l.graph.definitions l.from (shown (drop l.name-index l.names))
    ≡ l.initial.facts.items ++ undefined_in l.graph.definitions l.from (shown l.names)
