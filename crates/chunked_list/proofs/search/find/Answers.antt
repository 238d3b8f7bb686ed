use Rattle.std.proofs.Common.{ap, sym, ◌∙◌, arith}
use Rattle.chunked_list.specs.Working.Places.{before_place, behind_place}
use Rattle.chunked_list.proofs.Stretches.{place_within}
use Rattle.chunked_list.proofs.Places.{before_found, from_found, none_before_first}
use Rattle.chunked_list.proofs.search.find.Goals as goal

pub returns-clause-item : goal.returns-clause-item
returns-clause-item g c = omega (arith, c.place_in-item.ensures, place_within (g.P.Test.passed_by c.args.test.now) (Rattle.chunked_list.specs.Working.Places.items_of c.args.chunks.now c.chunk_of-chunk.result))

pub returns-clause-before : goal.returns-clause-before
returns-clause-before g c =
    ap (before_place c.args.chunks.now c.chunk_of-chunk.result) c.place_in-item.ensures
    ∙ sym (before_found (g.P.Test.passed_by c.args.test.now) c.args.chunks.now c.chunk_of-chunk.result c.requires.full c.requires.order c.chunk_of-chunk.ensures)

pub returns-clause-behind : goal.returns-clause-behind
returns-clause-behind g c =
    ap (behind_place c.args.chunks.now c.chunk_of-chunk.result) c.place_in-item.ensures
    ∙ sym (from_found (g.P.Test.passed_by c.args.test.now) c.args.chunks.now c.chunk_of-chunk.result c.requires.full c.requires.order c.chunk_of-chunk.ensures)

pub returns-clause-first : goal.returns-clause-first
returns-clause-first g c =
    λ e. none_before_first (g.P.Test.passed_by c.args.test.now) c.args.chunks.now c.chunk_of-chunk.result c.requires.full c.requires.order c.chunk_of-chunk.ensures (sym c.place_in-item.ensures ∙ e)
