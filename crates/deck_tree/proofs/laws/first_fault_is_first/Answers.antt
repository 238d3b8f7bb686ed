use Rattle.deck_tree.proofs.FirstFault.{is_first}
use Rattle.deck_tree.proofs.laws.first_fault_is_first.Goals as goal

pub returns : goal.returns
returns c = λ faults. is_first faults
