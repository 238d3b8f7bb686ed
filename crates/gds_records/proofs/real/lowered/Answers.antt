use Rattle.std.proofs.Common.{◌≡◌, zero, suc, ◌-◌, ◌*◌, ◌/◌, ◌^◌, ◌<◌, ◌≤◌, sym, ap, subst, ◌∙◌, arith}
use Rattle.gds_records.proofs.Powers.{raised_least, raised_between, lowered_back, unit_is, raised_twice}
use Rattle.gds_records.proofs.real.lowered.Goals as goal

pub returns-then-by-ge56-clause-none : goal.returns-then-by-ge56-clause-none
returns-then-by-ge56-clause-none c zero e =
    let r = c.requires in
    let b = raised_between zero c.args.fraction 312 (312 - c.args.power) c.args.power (omega arith) e in
    omega arith
returns-then-by-ge56-clause-none c (suc n) e =
    let r = c.requires in
    let b = raised_between (suc n) c.args.fraction 312 (312 - c.args.power) c.args.power (omega arith) e in
    let p = raised_least (suc n) (312 - c.args.power) 56 (omega arith) (omega arith) in
    omega arith

pub returns-then-size-unit-clause-none : goal.returns-then-size-unit-clause-none
returns-then-size-unit-clause-none c n e =
    let r = c.requires in
    let f = c.args.fraction in
    let by = 312 - c.args.power in
    let u = unit_is by (omega arith) in
    let b = raised_between n f 312 by c.args.power (omega arith) e in
    let d = lowered_back n by f b in
    absurd (c.if-size-unit.true (subst (λ m. f / m * m ≡ f) (sym u) (ap (λ k. k * 2 ^ by) d ∙ b)))

pub returns-then-size-gt-MOST-clause-none : goal.returns-then-size-gt-MOST-clause-none
returns-then-size-gt-MOST-clause-none c n e =
    let r = c.requires in
    let f = c.args.fraction in
    let by = 312 - c.args.power in
    let u = unit_is by (omega arith) in
    let b = raised_between n f 312 by c.args.power (omega arith) e in
    let d = lowered_back n by f b in
    subst (λ k. 1099511627776 < k) d (subst (λ m. 1099511627776 < f / m) u c.if-size-gt-MOST.true)

pub returns-clause-some : goal.returns-clause-some
returns-clause-some c =
    let r = c.requires in
    let f = c.args.fraction in
    let by = 312 - c.args.power in
    let u = unit_is by (omega arith) in
    let w = subst (λ m. f / m * m ≡ f) u c.if-size-unit.false in
    let p = raised_twice (f / 2 ^ by) by c.args.power 312 (omega arith) ∙ ap (λ k. k * 2 ^ c.args.power) w in
    subst (λ m. (f / m * 2 ^ 312 ≡ f * 2 ^ c.args.power) × (f / m ≤ 1099511627776)) (sym u) (p, subst (λ m. f / m ≤ 1099511627776) u c.if-size-gt-MOST.false)
