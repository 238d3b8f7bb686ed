use Rattle.std.proofs.Common.{◌≡◌, false, Some, sym, ap, subst, ◌∙◌}
use Rattle.std.proofs.lemmas.Option.{slice_get-get_or}
use Rattle.std.specs.Prelude.{slice_get}
use Rattle.gds_reach.specs.References.{IsOn}
use Rattle.gds_reach.specs.Working.Marks.{IsMarked}
use Rattle.gds_reach.proofs.Marking.{none_marked, one_marked}
use Rattle.gds_reach.proofs.mark.mark.Goals as goal

pub returns-in_ok-push : goal.returns-in_ok-push
returns-in_ok-push c =
    let is : slice_get c.args.flags.now c.args.structure ≡ Some false = slice_get-get_or c.args.flags.now c.args.structure false c.requires ∙ ap (λ b. Some b) c.if-not-flags-structure.true in
    subst (IsMarked (λ j. j ≡ c.args.structure) c.args.flags.now c.args.waiting.now.items _) (sym c.in_ok-push.ensures.items) (one_marked c.args.flags.now c.args.waiting.now.items c.args.structure c.requires is)

pub returns-else-not-flags-structure : goal.returns-else-not-flags-structure
returns-else-not-flags-structure c =
    let is : IsOn c.args.flags.now c.args.structure = slice_get-get_or c.args.flags.now c.args.structure false c.requires ∙ ap (λ b. Some b) c.if-not-flags-structure.false in
    none_marked c.args.flags.now c.args.waiting.now.items (λ i q. subst (IsOn c.args.flags.now) (sym q) is)
