use Rattle.std.proofs.Common.{◌≡◌, ◌≤◌, ◌++◌, length}
use Rattle.gds_library.specs.Fields as field
use Rattle.gds_library.proofs.fields.push_points.Given as goal

abbrev pub invariant-loop-index : goal.invariant-loop-index
invariant-loop-index l = record {
  pushed : l.points.items ≡ l.fn.points.items ++ field.first_points l.index l.body;
  no_fewer : length l.fn.points.items ≤ length l.points.items;
}
