use Rattle.std.proofs.Common.{arith}
use Rattle.std.proofs.Math.Nat.{one-le-pow}
use Rattle.deck_tree.proofs.Digits.{ten_to}
use Rattle.deck_tree.proofs.spelled.power_of_ten.Goals as goal

pub returns-clause-some : goal.returns-clause-some
returns-clause-some c = let h = one-le-pow c.args.n 10 (omega arith) in omega arith

pub returns-clause-bound : goal.returns-clause-bound
returns-clause-bound c = let h = ten_to c.args.n c.requires in omega arith
