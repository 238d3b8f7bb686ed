use Rattle.std.proofs.Common.{◌≡◌, inl, inr, arith, ◌^◌, unsigned_abs}
use Rattle.std.proofs.lemmas.Int.{to_z-of_z}
use Rattle.drc_num.proofs.Numbers.{no_power, some_power, exact_power, same_exact}
use Rattle.drc_num.proofs.Divisors.{lowest_powers}
use Rattle.std.specs.Int.{int_pow}
use Rattle.drc_num.specs.Fractions.{Fraction}
use Rattle.drc_num.specs.Working.Signs.{signed, power_sign}
use Rattle.drc_num.proofs.TheFraction.{no_power_fraction, is_the_fraction}
use Rattle.drc_num.proofs.frac.Frac.pow.Goals as goal

pub returns-in_err-size-clause-exact : goal.returns-in_err-size-clause-exact
returns-in_err-size-clause-exact c = rw (c.from_residual.ensures, ← c.self.view_is) (no_power _ c.args.n c.self.invariant (inl (grind (arith, to_z-of_z))))

pub returns-in_err-size-clause-fraction : goal.returns-in_err-size-clause-fraction
returns-in_err-size-clause-fraction c = rw (c.from_residual.ensures, ← c.self.view_is) (no_power_fraction _ c.args.n c.self.invariant (inl (grind (arith, to_z-of_z))))

pub returns-in_err-den-clause-fraction : goal.returns-in_err-den-clause-fraction
returns-in_err-den-clause-fraction c = rw (c.from_residual-in_err-den.ensures, ← c.self.view_is) (no_power_fraction _ c.args.n c.self.invariant (inr (grind (arith, to_z-of_z))))

pub returns-in_err-den-clause-exact : goal.returns-in_err-den-clause-exact
returns-in_err-den-clause-exact c = rw (c.from_residual-in_err-den.ensures, ← c.self.view_is) (no_power _ c.args.n c.self.invariant (inr (grind (arith, to_z-of_z))))

pub lowest-requires-clause-some : goal.lowest-requires-clause-some
lowest-requires-clause-some c = grind (arith, some_power)

pub lowest-requires-clause-lowest : goal.lowest-requires-clause-lowest
lowest-requires-clause-lowest c =
    let size : c.in_ok-size.size ≡ unsigned_abs c.self.inside.num ^ c.args.n = grind (arith, to_z-of_z) in
    let den : c.in_ok-den.den ≡ c.self.inside.den ^ c.args.n = grind (arith, to_z-of_z) in
    rw (size, den) (lowest_powers (unsigned_abs c.self.inside.num) c.self.inside.den c.self.invariant.some c.self.invariant.lowest c.args.n)

pub returns-clause-fraction : goal.returns-clause-fraction
returns-clause-fraction c =
    let size : c.in_ok-size.size ≡ unsigned_abs c.self.inside.num ^ c.args.n = grind (arith, to_z-of_z) in
    let den : c.in_ok-den.den ≡ c.self.inside.den ^ c.args.n = grind (arith, to_z-of_z) in
    let sign : c.is_power_negative.result ≡ power_sign c.self.inside.num c.args.n = grind (arith, to_z-of_z) in
    let f : Fraction = record { num = c.self.inside.num; den = c.self.inside.den } in
    let parts : signed c.is_power_negative.result c.in_ok-size.size ≡ signed (power_sign c.self.inside.num c.args.n) (unsigned_abs c.self.inside.num ^ c.args.n) = cc in
    rw (← c.self.view_is)
    (is_the_fraction (int_pow c.self.inside.num c.args.n) (c.self.inside.den ^ c.args.n) c.lowest.result (some_power c.self.inside.den c.args.n c.self.invariant.some)
    c.lowest.ensures.lowest (exact_power f c.args.n c.lowest.result (same_exact c.lowest.ensures.exact parts den)))
