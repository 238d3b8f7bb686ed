use Rattle.std.proofs.Common.{◌≡◌, ℕ, ◌+◌, ◌<◌, ◌*◌, ◌/◌, ◌∙◌, ap, set, sym, arith}
use Rattle.number_set.proofs.Trees.{leaf_written, parent_written, flags_leaf, flags_parent, tree_from}
use Rattle.number_set.proofs.tree.set_leaf.Goals as goal

pub loop-node-init : goal.loop-node-init
loop-node-init c =
    let h = c.requires.number in (
      leaf_written c.args.bound c.args.nodes.now c.args.number c.args.value c.requires.tree c.requires.number c.requires.value,
      omega arith,
      omega arith,
      flags_leaf c.args.bound c.args.nodes.now c.args.number c.args.value,
    )

pub loop-node-preserved : goal.loop-node-preserved
loop-node-preserved c =
    let i = c.loop-node.invariant in
    let t = c.loop-node-test.true in
    let low = i.1 in
    let high = i.2 in (
      rw c.min.ensures (parent_written c.args.bound c.loop-node.nodes c.loop-node.node i.0 t i.2),
      omega arith,
      omega arith,
      flags_parent c.args.bound c.loop-node.nodes (c.loop-node.node / 2) c.min.result (omega arith) ∙ i.3,
    )
