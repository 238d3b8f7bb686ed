use Rattle.std.proofs.Common.{◌≡◌, ◌++◌, drop}
use Rattle.deck_stacks.specs.Working.Deriving.{derive_all}
use Rattle.deck_stacks.proofs.opening.Taking.derive_all.Given as goal

abbrev pub invariant-loop-stack : goal.invariant-loop-stack
invariant-loop-stack l =
    l.found.items ++ derive_all l.self.kind (drop l.stack-index l.all) ≡ derive_all l.self.kind l.all
