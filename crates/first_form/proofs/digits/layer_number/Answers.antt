use Rattle.std.proofs.Common.{sym, ◌∙◌, arith}
use Rattle.first_form.proofs.Numbers.{numeral_few}
use Rattle.first_form.proofs.digits.layer_number.Goals as goal

pub digits_value-value-requires-clause-few : goal.digits_value-value-requires-clause-few
digits_value-value-requires-clause-few c =
    omega (arith, (numeral_few c.as_slice-digits.result.now (sym c.is_numeral.ensures ∙ c.if-not-is_numeral.false)).1)

pub digits_value-value-requires-clause-digits : goal.digits_value-value-requires-clause-digits
digits_value-value-requires-clause-digits c =
    (numeral_few c.as_slice-digits.result.now (sym c.is_numeral.ensures ∙ c.if-not-is_numeral.false)).0
