use Rattle.std.proofs.Common.{◌≡◌, ◌++◌, [], ◌∷◌, ◌<◌, ℕ, length, option_to_list, Option, sym, ap, subst, ◌∙◌, arith}
use Rattle.std.proofs.lemmas.Option.{slice_get_within}
use Rattle.std.specs.Prelude.{slice_get}
use Rattle.std.specs.Global.{Vec}
use Rattle.list_facts.proofs.Slots.{at_end}
use Rattle.gds_reach.specs.References.{named_in, IsNamed}
use Rattle.gds_reach.specs.Working.Marks.{IsMarked}
use Rattle.gds_reach.specs.Working.Spreading.{AreMet, work}
use Rattle.gds_reach.proofs.Paths.{named_here}
use Rattle.gds_reach.proofs.Spreading.{step_less, step_spread}
use Rattle.gds_reach.proofs.spread.step.Goals as goal

pub bounds-links-structure : goal.bounds-links-structure
bounds-links-structure c =
    let rest = c.pop.new.self.items in
    let cut : c.args.waiting.now.items ≡ rest ++ c.in-Some.structure ∷ [] = c.pop.ensures.items ∙ ap (λ o. rest ++ option_to_list o) c.in-Some.is in
    let on = c.requires.met.on c.in-Some.structure (length rest, ap (λ xs. slice_get xs (length rest)) cut ∙ at_end rest c.in-Some.structure) in
    let l = slice_get_within c.args.flags.now c.in-Some.structure _ on in
    let n = c.requires.all in
    omega arith

pub mark_all-requires : goal.mark_all-requires
mark_all-requires c = λ j named.
    let rest = c.pop.new.self.items in
    let u = c.in-Some.structure in
    let cut : c.args.waiting.now.items ≡ rest ++ u ∷ [] = c.pop.ensures.items ∙ ap (λ o. rest ++ option_to_list o) c.in-Some.is in
    let on = c.requires.met.on u (length rest, ap (λ xs. slice_get xs (length rest)) cut ∙ at_end rest u) in
    let n = c.requires.all in
    let there : u < length c.args.links.now = let l = slice_get_within c.args.flags.now u _ on in omega arith in
    let same : c.deref.result.now ≡ named_in c.args.links.now u = c.deref.ensures.value ∙ (ap (λ (v : Vec (Option ℕ)). v.items) c.index-links-structure.is ∙ sym (named_here c.args.links.now u c.index-links-structure.result there)) in
    let l = c.requires.within u j (subst (λ xs. IsNamed xs j) same named) in
    omega arith

pub returns-in_ok-mark_all-clause-spread : goal.returns-in_ok-mark_all-clause-spread
returns-in_ok-mark_all-clause-spread c =
    let rest = c.pop.new.self.items in
    let u = c.in-Some.structure in
    let cut : c.args.waiting.now.items ≡ rest ++ u ∷ [] = c.pop.ensures.items ∙ ap (λ o. rest ++ option_to_list o) c.in-Some.is in
    let on = c.requires.met.on u (length rest, ap (λ xs. slice_get xs (length rest)) cut ∙ at_end rest u) in
    let n = c.requires.all in
    let there : u < length c.args.links.now = let l = slice_get_within c.args.flags.now u _ on in omega arith in
    let same : c.deref.result.now ≡ named_in c.args.links.now u = c.deref.ensures.value ∙ (ap (λ (v : Vec (Option ℕ)). v.items) c.index-links-structure.is ∙ sym (named_here c.args.links.now u c.index-links-structure.result there)) in
    step_spread c.args.flags.now c.mark_all.new.flags rest c.mark_all.new.waiting.items u (subst (AreMet c.args.links.now c.args.flags.now) cut c.requires.met)
    (subst (λ xs. IsMarked (IsNamed xs) c.args.flags.now rest c.mark_all.new.flags c.mark_all.new.waiting.items) same c.in_ok-mark_all.ensures)

pub returns-in_ok-mark_all-clause-less : goal.returns-in_ok-mark_all-clause-less
returns-in_ok-mark_all-clause-less c =
    let rest = c.pop.new.self.items in
    let u = c.in-Some.structure in
    let cut : c.args.waiting.now.items ≡ rest ++ u ∷ [] = c.pop.ensures.items ∙ ap (λ o. rest ++ option_to_list o) c.in-Some.is in
    subst (λ xs. work c.mark_all.new.flags c.mark_all.new.waiting.items < work c.args.flags.now xs) (sym cut) (step_less c.args.flags.now c.mark_all.new.flags rest c.mark_all.new.waiting.items u c.in_ok-mark_all.ensures)
