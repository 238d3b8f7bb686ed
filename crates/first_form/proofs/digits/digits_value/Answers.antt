use Rattle.std.proofs.Common.{arith}
use Rattle.first_form.proofs.DigitSteps.{one_more_digit}
use Rattle.first_form.proofs.digits.digits_value.Goals as goal

pub overflow_mul-value : goal.overflow_mul-value
overflow_mul-value c =
    let s = one_more_digit c.args.digits.now c.loop-digit.digit-index c.loop-digit-test.true c.requires.few c.requires.digits in
    omega (arith, s.0, s.1, c.loop-digit.invariant)

pub overflow_add-value : goal.overflow_add-value
overflow_add-value c =
    let s = one_more_digit c.args.digits.now c.loop-digit.digit-index c.loop-digit-test.true c.requires.few c.requires.digits in
    omega (arith, s.0, s.1, c.loop-digit.invariant)

pub loop-digit-preserved : goal.loop-digit-preserved
loop-digit-preserved c =
    let s = one_more_digit c.args.digits.now c.loop-digit.digit-index c.loop-digit-test.true c.requires.few c.requires.digits in
    omega (arith, s.0, c.loop-digit.invariant)
