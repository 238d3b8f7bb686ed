use Rattle.std.proofs.Common.{take}
use Rattle.gds_grammar.specs.Slots.{StandsBehind}
use Rattle.gds_grammar.proofs.walk.slot_behind.Given as goal

abbrev pub invariant-loop-kind : goal.invariant-loop-kind
invariant-loop-kind l = StandsBehind (take l.kind-index l.kinds) l.slot
