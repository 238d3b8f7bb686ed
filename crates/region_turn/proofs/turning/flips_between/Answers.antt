use Rattle.std.proofs.Common.{◌++◌, pos, get_or, drop, sym, ap, append_assoc, ◌∷◌, [], ◌∙◌}
use Rattle.std.proofs.lemmas.List.{take_rest}
use Rattle.region_turn.specs.declared.corner.Corner.{Corner}
use Rattle.region_turn.specs.Working.Corners.{flips_between}
use Rattle.region_turn.proofs.Corners.{two_more}
use Rattle.region_turn.proofs.turning.flips_between.Goals as goal

pub loop-left-preserved : goal.loop-left-preserved
loop-left-preserved c =
    let d : Corner = record { line = pos 0; row = pos 0 } in
    let left = c.loop-left.left.now in
    let flips = c.loop-left.flips.items in
    let one = flips_between (get_or left 0 d ∷ get_or left 1 d ∷ []) in
    ap (λ cs. c.push_between.new.flips.items ++ flips_between cs) (take_rest left 2)
    ∙ (ap (λ fs. fs ++ flips_between (drop 2 left)) c.in_ok-push_between.ensures
    ∙ (append_assoc flips one (flips_between (drop 2 left))
    ∙ (ap (λ fs. flips ++ fs) (sym (two_more left d d c.in-len2-up.len_at_least)) ∙ c.loop-left.invariant)))
