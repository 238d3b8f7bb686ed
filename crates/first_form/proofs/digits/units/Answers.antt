use Rattle.std.proofs.Common.{◌≡◌, ◌<◌, List, ℕ, ap, ◌∙◌, arith}
use Rattle.std.specs.Str.Parse.{digits_value}
use Rattle.first_form.proofs.DigitSteps.{six_digits}
use Rattle.first_form.proofs.digits.units.Goals as goal

pub overflow_mul-result : goal.overflow_mul-result
overflow_mul-result c =
    let small : digits_value 10 c.args.number.now.whole < 1000000 = six_digits c.args.number.now.whole c.requires.few c.requires.digits in
    let is : c.digits_value.result ≡ digits_value 10 c.args.number.now.whole = c.digits_value.ensures ∙ ap (λ (ds : List ℕ). digits_value 10 ds) c.as_slice.ensures in
    omega arith

pub overflow_add-result : goal.overflow_add-result
overflow_add-result c =
    let small : digits_value 10 c.args.number.now.whole < 1000000 = six_digits c.args.number.now.whole c.requires.few c.requires.digits in
    let is : c.digits_value.result ≡ digits_value 10 c.args.number.now.whole = c.digits_value.ensures ∙ ap (λ (ds : List ℕ). digits_value 10 ds) c.as_slice.ensures in
    omega arith
