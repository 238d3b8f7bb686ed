use Rattle.drc_cli.proofs.LayoutLaws.{one_list_of_elements, accepted_not_refused, one_refusal}
use Rattle.drc_cli.proofs.laws.one_layout_answer.Goals as goal

pub returns-clause-elements : goal.returns-clause-elements
returns-clause-elements c = one_list_of_elements

pub returns-clause-accepted : goal.returns-clause-accepted
returns-clause-accepted c = accepted_not_refused

pub returns-clause-refused : goal.returns-clause-refused
returns-clause-refused c = one_refusal
