use Rattle.std.proofs.Common.{◌≡◌, ◌++◌, drop}
use Rattle.row_state.specs.Working.Walks.{entries_of, pieces_of}
use Rattle.row_state.proofs.walk.walk_over.Given as goal

abbrev pub invariant-loop-entry : goal.invariant-loop-entry
invariant-loop-entry g l =
    (l.new.items ++ entries_of g.V.Value.same (g.C.Change.makes l.change) l.end l.walk (drop l.entry-index l.entries) ≡ l.fn.new.items ++ entries_of g.V.Value.same (g.C.Change.makes l.change) l.end l.fn.start l.entries)
    × (l.pieces.items ++ pieces_of l.end l.walk.at l.walk.value (drop l.entry-index l.entries) ≡ l.fn.pieces.items ++ pieces_of l.end l.fn.start.at l.fn.start.value l.entries)
