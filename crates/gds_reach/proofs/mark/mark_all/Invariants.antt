use Rattle.gds_reach.specs.Working.Marks.{IsMarked}
use Rattle.gds_reach.specs.References.{IsNamedBelow}
use Rattle.gds_reach.proofs.mark.mark_all.Given as goal

abbrev pub invariant-loop-name : goal.invariant-loop-name
invariant-loop-name l =
    IsMarked (IsNamedBelow l.named l.name-index) l.initial.flags l.initial.waiting.items l.flags l.waiting.items
