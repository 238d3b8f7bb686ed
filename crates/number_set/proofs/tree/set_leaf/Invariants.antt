use Rattle.std.proofs.Common.{◌≡◌, ℕ, ◌+◌, ◌*◌, ◌/◌, ◌<◌, ◌≤◌, set, nat_lt}
use Rattle.number_set.specs.Trees.{flags_of}
use Rattle.number_set.proofs.Trees.{AllBut}
use Rattle.number_set.proofs.tree.set_leaf.Given as goal

abbrev pub invariant-loop-node : goal.invariant-loop-node
invariant-loop-node l = AllBut l.bound l.nodes (l.node / 2) × (1 ≤ l.node) × (l.node < 2 * l.bound) × (flags_of l.bound l.nodes ≡ set (flags_of l.bound l.fn.nodes) l.number (nat_lt l.value l.bound))

abbrev pub decreases-loop-node : goal.decreases-loop-node
decreases-loop-node l = l.node
