use Rattle.first_form.proofs.FirstForms as forms
use Rattle.first_form.proofs.laws.one_first_form.Goals as goal

pub returns : goal.returns
returns c = forms.one_first_form
