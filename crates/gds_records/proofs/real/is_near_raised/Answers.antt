use mathlib.Core.Bool.{true≢false}
use Rattle.std.proofs.Common.{sym, arith}
use Rattle.gds_records.proofs.RealSizes.{raised_too_far}
use Rattle.gds_records.proofs.real.is_near_raised.Goals as goal

pub returns-then-by-gt31 : goal.returns-then-by-gt31
returns-then-by-gt31 c = ((λ t. absurd (true≢false (sym t))), (λ n. absurd (raised_too_far c.args.product c.args.by (omega arith) n)))
