use Rattle.std.proofs.Common.{◌≡◌, ℕ, ◌-◌, ◌*◌, ◌^◌, ◌<◌, ◌≤◌, sym, ◌∙◌, subst, arith}
use Rattle.gds_records.proofs.Powers.{raised_least, raised_twice, raised_equal, shift_is}
use Rattle.gds_records.proofs.real.raised.Goals as goal

-- the number is the fraction, raised by what the power is above the scale
size_is : (n f power : ℕ) → 312 ≤ power → n * 2 ^ 312 ≡ f * 2 ^ power → n ≡ f * 2 ^ (power - 312)
size_is n f power h e = raised_equal n (f * 2 ^ (power - 312)) 312 (e ∙ raised_twice f (power - 312) 312 power (omega arith))

pub returns-then-by-gt40-clause-none : goal.returns-then-by-gt40-clause-none
returns-then-by-gt40-clause-none c n e =
    let r = c.requires in
    let p = raised_least c.args.fraction (c.args.power - 312) 41 r.0 (omega arith) in
    let s = size_is n c.args.fraction c.args.power r.2 e in
    omega arith

pub returns-then-size-gt-MOST-clause-none : goal.returns-then-size-gt-MOST-clause-none
returns-then-size-gt-MOST-clause-none c n e =
    let r = c.requires in
    let s = size_is n c.args.fraction c.args.power r.2 e in
    let k = shift_is c.args.fraction (c.args.power - 312) r.1 (omega arith) in
    subst (λ m. 1099511627776 < m) (sym s) (subst (λ m. 1099511627776 < m) k c.if-size-gt-MOST.true)

pub returns-clause-some : goal.returns-clause-some
returns-clause-some c =
    let r = c.requires in
    let f = c.args.fraction in
    let by = c.args.power - 312 in
    let k = shift_is f by r.1 (omega arith) in
    let p = sym (raised_twice f by 312 c.args.power (omega arith)) in
    subst (λ m. (m * 2 ^ 312 ≡ f * 2 ^ c.args.power) × (m ≤ 1099511627776)) (sym k) (p, subst (λ m. m ≤ 1099511627776) k c.if-size-gt-MOST.false)
