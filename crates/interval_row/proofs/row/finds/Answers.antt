use Rattle.std.proofs.Common.{◌≡◌, ℕ, ◌+◌, ◌-◌, ◌/◌, ◌<◌, length, get_or, drop, pos, ◌<ℤ◌, ◌≤ℤ◌, arith, subst}
use Rattle.std.proofs.lemmas.Grind.{common_steps}
use Rattle.std.proofs.lemmas.Int.{ints, to_z-of_z}
use Rattle.interval_row.specs.declared.span.Span.{Span}
use Rattle.interval_row.specs.Rows.{BeginsAbove}
use Rattle.interval_row.proofs.Splits.{found_at, ends_at, not_found_at}
use Rattle.interval_row.proofs.row.finds.Goals as goal

pub loop-low-preserved : goal.loop-low-preserved
loop-low-preserved c =
    let r = c.ranges.x in
    let d : Span = record { lo = pos 0; hi = pos 0 } in
    let m : ℕ = c.loop-low.low + (c.loop-low.high - c.loop-low.low) / 2 in
    let h : m < length c.args.spans.now = omega arith in
    let k : (get_or c.args.spans.now m d).hi ≤ℤ c.args.x = grind (arith, ints, common_steps) in
    let e = ends_at c.args.spans.now m d c.args.x h c.requires k in
    record {
      ordered = omega arith;
      in_range = omega arith;
      left_out = simp to_z-of_z e;
      right_out = c.loop-low.invariant.right_out;
    }

pub returns-else-span-x : goal.returns-else-span-x
returns-else-span-x c =
    let d : Span = record { lo = pos 0; hi = pos 0 } in
    let m : ℕ = c.loop-low.low + (c.loop-low.high - c.loop-low.low) / 2 in
    let h : m < length c.args.spans.now = omega arith in
    let k : (get_or c.args.spans.now m d).lo ≤ℤ c.args.x = grind (arith, ints, common_steps) in
    let l : c.args.x <ℤ (get_or c.args.spans.now m d).hi = grind (arith, ints, common_steps) in
    found_at c.args.spans.now m d c.args.x h k l

pub returns : goal.returns
returns c =
    let f = c.ranges.x in
    let e : c.loop-low.high ≡ c.loop-low.low = omega arith in
    let o = simp to_z-of_z at c.loop-low.invariant.left_out in
    let b = simp to_z-of_z at c.loop-low.invariant.right_out in
    not_found_at c.args.spans.now c.loop-low.low c.args.x c.requires o (subst (λ n. BeginsAbove c.args.x (drop n c.args.spans.now)) e b)
