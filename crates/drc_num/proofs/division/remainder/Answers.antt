use Rattle.std.proofs.Common.{◌≡◌, ℤ, ◌+ℤ◌, ◌-ℤ◌, ◌*ℤ◌, rules, arith, ◌∙◌, int_rem, int_div}
use Rattle.std.specs.Int.{w128}
use Rattle.std.proofs.lemmas.Int.{ints, rem_is, quot-rem}
use Rattle.drc_num.proofs.division.remainder.Goals as goal

left_over : (r m a : ℤ) → m +ℤ r ≡ a → r ≡ a -ℤ m
left_over r m a e = omega (arith, ints)

pub returns-clause-value : goal.returns-clause-value
returns-clause-value c =
    rem_is w128 c.args.a c.args.b (search rules) (search rules)
    ∙ left_over (int_rem c.args.a c.args.b) (int_div c.args.a c.args.b *ℤ c.args.b) c.args.a (quot-rem c.args.a c.args.b)
