use Rattle.std.proofs.Common.{◌≡◌, ◌++◌, drop}
use Rattle.std.specs.List.{before_first}
use Rattle.chunked_list.specs.Chunks.{joined}
use Rattle.chunked_list.proofs.chunk.copy_fronts.Given as goal

abbrev pub invariant-loop-chunk : goal.invariant-loop-chunk
invariant-loop-chunk g l =
    l.out.items ++ before_first (g.Q.Test.passed_by l.behind) (joined (drop l.chunk-index l.chunks)) ≡ l.fn.out.items ++ before_first (g.Q.Test.passed_by l.behind) (joined l.chunks)
