use mathlib.Core.Bool.{true≢false}
use Rattle.std.proofs.Common.{sym, ◌≡◌, ℕ, ◌*◌, ◌%◌, ◌^◌, ◌<◌, ◌≤◌, subst, arith}
use Rattle.std.proofs.Math.Nat.{mul-le-mul, mod-eq_of_lt}
use Rattle.std.proofs.Math.Pow.{pow_mono}
use Rattle.gds_records.proofs.RealSizes.{lowered_too_far, high_decides}
use Rattle.gds_records.proofs.real.is_near_lowered.Goals as goal

-- a shift of at most 2^31 by at most 76 stays in 128 bits
shift_is : (n by : ℕ) → n ≤ 2 ^ 31 → by ≤ 76 → (n * 2 ^ by) % 2 ^ 128 ≡ n * 2 ^ by
shift_is n by h k = let m : n * 2 ^ by ≤ 2 ^ 31 * 2 ^ 76 = mul-le-mul h (pow_mono k) in mod-eq_of_lt (let l : n * 2 ^ by < 2 ^ 128 = omega arith in l)

pub returns-then-by-gt76 : goal.returns-then-by-gt76
returns-then-by-gt76 c = ((λ t. absurd (true≢false (sym t))), (λ n. absurd (lowered_too_far c.args.product c.args.by (omega arith) c.requires n)))

pub returns-then-by-product : goal.returns-then-by-product
returns-then-by-product c =
    let by = c.args.by in
    let low = shift_is 1073741823 by (omega arith) (omega arith) in
    let high = shift_is 1073741825 by (omega arith) (omega arith) in
    high_decides c.args.product (2 ^ by) (1073741825 * 2 ^ by % 2 ^ 128) high (subst (λ m. m ≤ c.args.product) low c.if-by-product.true)
