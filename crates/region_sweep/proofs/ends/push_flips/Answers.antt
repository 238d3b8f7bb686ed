use Rattle.std.proofs.Common.{◌++◌, ◌∷◌, [], pos, get_or, drop, to_z, of_z, w64, rules, sym, ap, append_assoc, ◌∙◌}
use Rattle.std.proofs.lemmas.Int.{to_z-of_z}
use Rattle.std.proofs.lemmas.List.{take_rest}
use mir.Val.{SFits}
use Rattle.region_sweep.specs.Working.Ends.{flips_of}
use Rattle.region_sweep.proofs.EndFlips.{two_more}
use Rattle.region_sweep.proofs.ends.push_flips.Goals as goal

pub loop-left-preserved : goal.loop-left-preserved
loop-left-preserved c =
    let line = to_z w64 (of_z w64 c.args.line) in
    let left = c.loop-left.left.now in
    let flips = c.loop-left.flips.items in
    let x0 = get_or left 0 (pos 0) in
    let x1 = get_or left 1 (pos 0) in
    let fits0 : SFits w64 x0 = search rules in
    let fits1 : SFits w64 x1 = search rules in
    let pushed = c.in_ok-push.ensures.items ∙ (ap (λ a. flips ++ record { y = line; x0 = a; x1 = to_z w64 (of_z w64 x1) } ∷ []) (to_z-of_z w64 x0 fits0) ∙ ap (λ b. flips ++ record { y = line; x0 = x0; x1 = b } ∷ []) (to_z-of_z w64 x1 fits1)) in
    ap (λ es. c.push.new.self.items ++ flips_of line es) (take_rest left 2)
    ∙ (ap (λ fs. fs ++ flips_of line (drop 2 left)) pushed
    ∙ (append_assoc flips (record { y = line; x0 = x0; x1 = x1 } ∷ []) (flips_of line (drop 2 left))
    ∙ (ap (λ fs. flips ++ fs) (sym (two_more line left (pos 0) (pos 0) c.in-len2-up.len_at_least)) ∙ c.loop-left.invariant)))
