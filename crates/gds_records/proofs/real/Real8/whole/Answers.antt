use Rattle.std.proofs.Common.{◌<◌, ◌*◌, ◌^◌, unsigned_abs, sym, ap, ◌∙◌, subst}
use Rattle.gds_records.specs.Reals.{exponent}
use Rattle.gds_records.proofs.RealSigns.{abs_signed}
use Rattle.gds_records.proofs.real.Real8.whole.Goals as goal

pub returns-in-None-clause-none : goal.returns-in-None-clause-none
returns-in-None-clause-none c n v =
    let f = c.fraction.ensures.fraction in
    let e = c.exponent.ensures.exponent in
    let s = v.scaled ∙ ap (λ k. k * 2 ^ (4 * exponent c.args.self.now)) (sym f) ∙ ap (λ k. c.fraction.result * 2 ^ (4 * k)) (sym e) in
    subst (λ k. 1099511627776 < k) (sym (ap unsigned_abs v.sign ∙ abs_signed c.args.self.now v.size)) (c.in-None.ensures.none v.size s)
