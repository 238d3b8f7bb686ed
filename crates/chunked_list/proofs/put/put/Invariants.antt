use Rattle.std.proofs.Common.{◌≡◌, ◌-◌, ◌<◌, ◌≤◌, false, length}
use Rattle.chunked_list.specs.Chunks.{AreFull}
use Rattle.chunked_list.specs.Working.Places.{items_of, behind_place, replaced}
use Rattle.chunked_list.proofs.put.put.Given as goal

abbrev pub invariant-loop-count : goal.invariant-loop-count
invariant-loop-count g l =
    (l.chunk < length l.chunks.items)
    × (l.place ≤ length (items_of l.chunks.items l.chunk))
    × (l.count ≤ length (behind_place l.chunks.items l.chunk l.place))
    × (replaced l.chunks.items l.chunk l.place l.count l.left ≡ replaced l.fn.chunks.items l.fn.chunk l.fn.place l.fn.count l.fn.with)
    × (l.emptied ≡ false → AreFull l.chunks.items)

abbrev pub decreases-loop-count : goal.decreases-loop-count
decreases-loop-count g l = length l.chunks.items - l.chunk
