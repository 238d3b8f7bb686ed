use Rattle.std.proofs.Common.{◌≡◌, ℕ, length, Option, sym, ap, subst, ◌∙◌, arith}
use Rattle.std.specs.Global.{Vec}
use Rattle.gds_reach.specs.References.{named_in, IsNamed}
use Rattle.gds_reach.specs.Facts.{IsFirstPlace}
use Rattle.gds_reach.proofs.Paths.{named_here}
use Rattle.gds_recursion.specs.Working.Circles.{NamesFlagged}
use Rattle.gds_recursion.proofs.Backward.{first_same, flagged_leads_back}
use Rattle.gds_recursion.proofs.back.first_back.Goals as goal

pub first_flagged-requires : goal.first_flagged-requires
first_flagged-requires c = λ j named.
    let links = c.args.links.now in
    let i = c.args.structure in
    let same : c.deref.result.now ≡ named_in links i = c.deref.ensures.value ∙ (ap (λ (v : Vec (Option ℕ)). v.items) c.index-links-structure.is ∙ sym (named_here links i c.index-links-structure.result c.requires.there)) in
    let l = c.requires.within i j (subst (λ xs. IsNamed xs j) same named) in
    let n : length c.deref-2.result.now ≡ length links = ap length c.deref-2.ensures.value ∙ c.in_ok-leading.ensures.all in
    omega arith

pub returns : goal.returns
returns c =
    let links = c.args.links.now in
    let i = c.args.structure in
    let leading = c.in_ok-leading.leading.items in
    let first = c.first_flagged.result in
    let same : c.deref.result.now ≡ named_in links i = c.deref.ensures.value ∙ (ap (λ (v : Vec (Option ℕ)). v.items) c.index-links-structure.is ∙ sym (named_here links i c.index-links-structure.result c.requires.there)) in
    first_same first (flagged_leads_back links leading i c.requires.within c.in_ok-leading.ensures)
    (subst (λ flags. IsFirstPlace (NamesFlagged (named_in links i) flags) first) c.deref-2.ensures.value
    (subst (λ named. IsFirstPlace (NamesFlagged named c.deref-2.result.now) first) same c.first_flagged.ensures))
