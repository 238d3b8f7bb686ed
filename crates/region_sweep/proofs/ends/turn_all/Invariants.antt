use Rattle.std.proofs.Common.{◌≡◌, ℤ, ◌≤ℤ◌, drop}
use Rattle.std.specs.List.{AllByRecursion}
use Rattle.list_facts.specs.EitherOr.{exactly_one}
use Rattle.region_sweep.specs.Working.Ends.{AscendStrictly, is_odd_number, odd_ends}
use Rattle.region_sweep.proofs.ends.turn_all.Given as goal

abbrev pub invariant-loop-end : goal.invariant-loop-end
invariant-loop-end l =
    ((x : ℤ) → exactly_one (odd_ends l.kept.items x) (odd_ends (drop l.end-index l.ends) x) ≡ odd_ends l.ends x)
    × (exactly_one (is_odd_number l.kept.items) (is_odd_number (drop l.end-index l.ends)) ≡ is_odd_number l.ends)
    × AscendStrictly l.kept.items
    × AllByRecursion (λ (f : ℤ). AllByRecursion (λ (e : ℤ). e ≤ℤ f) l.kept.items) (drop l.end-index l.ends)
