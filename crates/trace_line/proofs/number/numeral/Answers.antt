use Rattle.trace_line.proofs.Digits.{taken_are_digits}
use Rattle.trace_line.proofs.number.numeral.Goals as goal

pub returns-then-is_numeral-clause-digits : goal.returns-then-is_numeral-clause-digits
returns-then-is_numeral-clause-digits c =
    rw (c.split_at.ensures.front, c.digits_len.ensures.longest) (taken_are_digits c.args.text.now)
