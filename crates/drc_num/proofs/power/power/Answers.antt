use Rattle.std.proofs.Common.{◌≡◌, ℕ, suc, ◌*◌, ◌^◌, ◌<◌, ◌≤◌, arith, ap}
use Rattle.std.proofs.Math.Nat.{pow-suc, pow-le-pow_right}
use Rattle.drc_num.specs.Fractions.{most}
use Rattle.drc_num.proofs.power.power.Goals as goal

positive : (p b : ℕ) → most < p * b → 0 < b
positive p b h = grind arith

-- a power that is too great stays so
outgrown : (b k n p : ℕ) → p ≡ b ^ k → k < n → most < p * b → most < b ^ n
outgrown b k n p e h big =
    let next : suc k ≤ n = omega arith in
    omega (arith, pow-le-pow_right (positive p b big) next, pow-suc b k, ap (λ m. m * b) e)

pub returns-then-product-gt-MOST-clause-none : goal.returns-then-product-gt-MOST-clause-none
returns-then-product-gt-MOST-clause-none c =
    outgrown c.args.base c.loop-turn._turn c.args.n c.loop-turn.product c.loop-turn.invariant.0 c.loop-turn-test.true
    c.if-product-gt-MOST.true
