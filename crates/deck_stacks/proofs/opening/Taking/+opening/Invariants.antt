-- How often rules may still be opened, and how far one opening has come.
use Rattle.std.proofs.Common.{◌≡◌, ◌+◌, ◌*◌, [], ◌++◌, drop, map}
use Rattle.std.specs.Prelude.{if◌then◌else◌}
use Rattle.std.specs.List.{flat_map}
use Rattle.deck_stacks.specs.Working.Deriving.{derive}
use Rattle.deck_stacks.specs.Parts.{part_of}
use Rattle.deck_stacks.proofs.opening.Taking.+opening.Given as goal

abbrev pub decreases-opened : goal.decreases-opened
decreases-opened l = 6 * l.turns

abbrev pub decreases-options : goal.decreases-options
decreases-options l = 6 * l.turns

abbrev pub decreases-behind : goal.decreases-behind
decreases-behind l = 6 * l.turns + 1

abbrev pub decreases-derive : goal.decreases-derive
decreases-derive l = 6 * l.turns + 2

abbrev pub decreases-one : goal.decreases-one
decreases-one l = 6 * l.turns + 3

abbrev pub decreases-each : goal.decreases-each
decreases-each l = 6 * l.turns + 4

abbrev pub decreases-one_if : goal.decreases-one_if
decreases-one_if l = 6 * l.turns + 4

abbrev pub decreases-each_if : goal.decreases-each_if
decreases-each_if l = 6 * l.turns + 5

abbrev pub invariant-each-loop-parts : goal.invariant-each-loop-parts
invariant-each-loop-parts l =
    (l.stack ≡ l.fn.stack)
    × (l.found.items
    ++ flat_map (λ it. derive l.turns l.self.kind (it ++ l.fn.stack))
    (map (λ it. map part_of it.now) (drop l.parts-index l.all))
    ≡ l.initial.found.items
    ++ flat_map (λ it. derive l.turns l.self.kind (it ++ l.fn.stack)) (map (λ it. map part_of it.now) l.all))

abbrev pub invariant-each_if-loop-it : goal.invariant-each_if-loop-it
invariant-each_if-loop-it l =
    (l.stack ≡ l.fn.stack)
    × (l.found.items
    ++ flat_map (λ it. if it.0 then derive l.turns l.self.kind (map part_of it.1.now ++ l.fn.stack) else [])
    (drop l.it-index l.all)
    ≡ l.initial.found.items
    ++ flat_map (λ it. if it.0 then derive l.turns l.self.kind (map part_of it.1.now ++ l.fn.stack) else []) l.all)
