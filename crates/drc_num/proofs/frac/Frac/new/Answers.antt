use Rattle.std.proofs.Common.{◌/◌}
use Rattle.std.proofs.Math.Nat.{div-mul_cancel, mul-div_cancel'}
use Rattle.drc_num.proofs.Divisors.{reduced, gcd_some, quotient_some}
use Rattle.drc_num.proofs.Numbers.{exact_raised, divided_number, same_exact}
use Rattle.drc_num.specs.Fractions.{IsExact}
use Rattle.drc_num.proofs.TheFraction.{is_the_fraction}
use Rattle.drc_num.proofs.frac.Frac.new.Goals as goal

pub nonzero_div-size : goal.nonzero_div-size
nonzero_div-size c = gcd_some _ c.args.den _ c.gcd-common.ensures c.requires.some

pub nonzero_div-den : goal.nonzero_div-den
nonzero_div-den c = gcd_some _ c.args.den _ c.gcd-common.ensures c.requires.some

pub lowest-requires-clause-some : goal.lowest-requires-clause-some
lowest-requires-clause-some c = quotient_some c.args.den c.gcd-common.result c.gcd-common.ensures.1 c.requires.some

pub lowest-requires-clause-lowest : goal.lowest-requires-clause-lowest
lowest-requires-clause-lowest c =
    reduced _ _ c.gcd-common.result (gcd_some _ c.args.den _ c.gcd-common.ensures c.requires.some)
    (rw (mul-div_cancel' c.gcd-common.result c.gcd-common.ensures.0, mul-div_cancel' c.gcd-common.result c.gcd-common.ensures.1) c.gcd-common.ensures)

pub returns : goal.returns
returns c =
    let exact : IsExact c.args.num c.args.den c.lowest.result =
    same_exact
    (exact_raised _ (c.args.den / c.gcd-common.result) c.gcd-common.result c.lowest.result
    (gcd_some _ c.args.den _ c.gcd-common.ensures c.requires.some) c.lowest.ensures.exact)
    (divided_number c.args.num c.unsigned_abs-size.result c.gcd-common.result c.requires.size c.unsigned_abs-size.ensures.value c.gcd-common.ensures.0)
    (div-mul_cancel c.gcd-common.result c.gcd-common.ensures.1) in
    record {
      exact = exact;
      fraction = is_the_fraction c.args.num c.args.den c.lowest.result c.requires.some c.lowest.ensures.lowest exact;
    }
