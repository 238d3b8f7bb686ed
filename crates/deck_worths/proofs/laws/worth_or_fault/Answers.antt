use Rattle.deck_worths.proofs.HaveWorths.{worth_or_fault}
use Rattle.deck_worths.proofs.laws.worth_or_fault.Goals as goal

pub returns : goal.returns
returns c = worth_or_fault
