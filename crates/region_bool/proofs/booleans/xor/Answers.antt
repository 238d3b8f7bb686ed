use Rattle.std.proofs.Common.{List, sym, subst, ap, ◌∙◌}
use Rattle.list_facts.specs.EitherOr.{exactly_one}
use Rattle.region_form.specs.declared.flip.Flip.{Flip}
use Rattle.region_form.specs.Flips.{IsRegion, squares}
use Rattle.region_bool.proofs.Passings.{region_of, squares_of}
use Rattle.region_bool.proofs.booleans.xor.Goals as goal

pub replace_end-requires-clause-form : goal.replace_end-requires-clause-form
replace_end-requires-clause-form c =
    subst IsRegion (sym c.deref.ensures.value)
    (region_of c.flips.result.now c.flips-2.result.now c.in_ok-flips.flips.items c.flips.ensures.form c.flips-2.ensures.form c.in_ok-flips.ensures)

pub returns : goal.returns
returns c =
    λ x y.
    ap (λ (fs : List Flip). squares fs x y) (c.in_ok-replace_end.ensures.ok ∙ c.deref.ensures.value)
    ∙ (squares_of c.flips.result.now c.flips-2.result.now c.in_ok-flips.flips.items x y c.in_ok-flips.ensures
    ∙ (ap (λ (fs : List Flip). exactly_one (squares fs x y) (squares c.flips-2.result.now x y)) c.flips.ensures.flips
    ∙ ap (λ (fs : List Flip). exactly_one (squares c.args.first.now x y) (squares fs x y)) c.flips-2.ensures.flips))
