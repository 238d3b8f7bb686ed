use Rattle.deck_worths.proofs.OneWorth.{one_worth}
use Rattle.deck_worths.proofs.laws.one_worth.Goals as goal

pub returns : goal.returns
returns c = one_worth
