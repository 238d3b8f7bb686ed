use Rattle.std.proofs.Common.{◌≡◌, ◌<◌, ℕ, true, false, Option, None, Some, sym, ap, ◌∙◌, arith}
use Rattle.std.proofs.lemmas.Option.{slice_get-get_or}
use Rattle.std.specs.Prelude.{slice_get}
use Rattle.std.specs.Global.{Vec}
use Rattle.gds_reach.specs.declared.reference.Reference.{Reference}
use Rattle.gds_reach.specs.References.{named_by, named_in, IsOn}
use Rattle.gds_reach.specs.Facts.{IsMissing}
use Rattle.gds_reach.proofs.Firsts.{found_first, none_below}
use Rattle.gds_reach.proofs.Paths.{named_here, stands_within}
use Rattle.gds_reach.proofs.first.missing.Goals as goal
use Rattle.gds_reach.proofs.first.missing.Goals.{then-reached-structure+in_default, else-reached-structure}

pub returns-in-Some : goal.returns-in-Some
returns-in-Some c = λ primary tell.
    let i = c.loop-structure.structure in
    let links = c.args.links.now in
    let l = c.loop-structure-test.true in
    let on : IsOn c.args.reached.now i = slice_get-get_or c.args.reached.now i false (let n = c.requires.all in omega arith) ∙ ap (λ b. Some b) c.if-reached-structure.true in
    let same : c.deref.result.now ≡ named_in links i = c.deref.ensures.value ∙ (ap (λ (v : Vec (Option ℕ)). v.items) c.index-links-structure.is ∙ sym (named_here links i c.index-links-structure.result l)) in
    found_first (λ x place. slice_get (named_in links x) place ≡ Some None) (IsMissing links primary) i c.in-Some.place
    ((tell.each i l).0 on, ap (λ xs. slice_get xs c.in-Some.place) (sym same) ∙ c.in-Some.ensures.0)
    (λ r less missing. c.loop-structure.invariant r less ((tell.each r.structure (omega arith)).1 missing.0) missing.1)
    (λ place less none. c.in-Some.ensures.1 place less (ap (λ xs. slice_get xs place) same ∙ none))
    (λ r missing. missing.1)

pub loop-structure-preserved : goal.loop-structure-preserved
loop-structure-preserved c =
    let i = c.loop-structure.structure in
    let links = c.args.links.now in
    let l = c.loop-structure-test.true in
    let below : (r : Reference) → r.structure < i → IsOn c.args.reached.now r.structure × (named_by links r ≡ Some None) → ⊥ = λ r less (on, none). c.loop-structure.invariant r less on none in
    elim c.if-reached-structure.branch [
      | then-reached-structure+in_default w ↦
          let same : w.deref.result.now ≡ named_in links i = w.deref.ensures.value ∙ (ap (λ (v : Vec (Option ℕ)). v.items) w.index-links-structure.is ∙ sym (named_here links i w.index-links-structure.result l)) in
          λ r less on none. none_below (λ r. IsOn c.args.reached.now r.structure × (named_by links r ≡ Some None)) i below
          (λ r q (on, none). w.in_default.ensures r.place (ap (λ xs. slice_get xs r.place) same ∙ (ap (λ x. slice_get (named_in links x) r.place) (sym q) ∙ none)))
          r less (on, none)
      | else-reached-structure w ↦
          let off : slice_get c.args.reached.now i ≡ Some false = slice_get-get_or c.args.reached.now i false (let n = c.requires.all in omega arith) ∙ ap (λ b. Some b) w.if-reached-structure.false in
          λ r less on none. none_below (λ r. IsOn c.args.reached.now r.structure × (named_by links r ≡ Some None)) i below
          (λ r q (on, none). let e : Some false ≡ Some true = sym off ∙ (ap (slice_get c.args.reached.now) (sym q) ∙ on) in absurd (cc))
          r less (on, none)
    ]

pub returns : goal.returns
returns c = λ primary tell r missing.
    let l = stands_within c.args.links.now r.structure r.place None missing.1 in
    let t = c.loop-structure-test.false in
    c.loop-structure.invariant r (omega arith) ((tell.each r.structure l).1 missing.0) missing.1
