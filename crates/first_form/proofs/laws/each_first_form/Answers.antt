use Rattle.first_form.proofs.FirstForms.{each_deck}
use Rattle.first_form.proofs.laws.each_first_form.Goals as goal

pub returns : goal.returns
returns c = each_deck
