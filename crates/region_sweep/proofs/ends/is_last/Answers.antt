use Rattle.std.proofs.Common.{◌≡◌, ◌-◌, pos, get_or, length, to_z, of_z, w64, ℤ, subst, rules}
use Rattle.std.proofs.lemmas.Int.{to_z-of_z}
use Rattle.std.specs.Bool.{MatchBool}
use mir.Val.{SFits}
use Rattle.region_sweep.proofs.EndFlips.{last_cases}
use Rattle.region_sweep.proofs.ends.is_last.Goals as goal

pub returns-in-len1-up : goal.returns-in-len1-up
returns-in-len1-up c =
    let last = get_or c.args.ends.now (length c.args.ends.now - 1) (pos 0) in
    let fits : SFits w64 last = search rules in
    let at_last : to_z w64 (of_z w64 last) ≡ last = to_z-of_z w64 last fits in
    let at_end : to_z w64 (of_z w64 c.args.end) ≡ c.args.end = to_z-of_z w64 c.args.end c.ranges.end in
    let told = subst (λ (v : ℤ). MatchBool c.is_equal.result (last ≡ v) (last ≡ v → ⊥)) at_end (subst (λ (u : ℤ). MatchBool c.is_equal.result (u ≡ to_z w64 (of_z w64 c.args.end)) (u ≡ to_z w64 (of_z w64 c.args.end) → ⊥)) at_last c.is_equal.ensures) in
    last_cases c.is_equal.result c.args.ends.now c.args.end (pos 0) c.in-len1-up.len_at_least told
