use Rattle.std.proofs.Common.{ℕ, ◌<◌, ◌≤◌, ◌⊎◌, inl, inr, rules, ◌∙◌, w64}
use Rattle.std.proofs.lemmas.Int.{to_z-of_z}
use Rattle.drc_num.specs.Fractions.{most}
use Rattle.drc_num.proofs.Numbers.{is_no_fraction, lowest_signed}
use Rattle.drc_num.proofs.frac.lowest.Goals as goal

pub invariant_of-result : goal.invariant_of-result
invariant_of-result c =
    lowest_signed _ c.args.negative c.args.size c.args.den (to_z-of_z w64 c.with_sign.result (search rules) ∙ c.with_sign.ensures) c.requires.some
    c.requires.lowest c.if-size-le-MOST.true c.if-den-le-MOST.true

too_great : (size den : ℕ) → ((size ≤ most) × (most < den)) ⊎ (most < size) → (most < size) ⊎ (most < den)
too_great size den h = elim h [ inl p ↦ inr p.1 | inr q ↦ inl q ]

pub returns-else-size-le-MOST-clause-exact : goal.returns-else-size-le-MOST-clause-exact
returns-else-size-le-MOST-clause-exact c = record {
  found = tt;
  none = is_no_fraction c.args.negative c.args.size c.args.den c.requires.some c.requires.lowest
      (too_great c.args.size c.args.den c.else-size-le-MOST.either);
}

pub returns-then-den-le-MOST-clause-lowest : goal.returns-then-den-le-MOST-clause-lowest
returns-then-den-le-MOST-clause-lowest c =
    lowest_signed _ c.args.negative c.args.size c.args.den (to_z-of_z w64 c.with_sign.result (search rules) ∙ c.with_sign.ensures) c.requires.some
    c.requires.lowest c.if-size-le-MOST.true c.if-den-le-MOST.true
