use Rattle.ledger_history.proofs.tests.+walk.Given as goal

abbrev pub decreases-walk : goal.decreases-walk
decreases-walk l = l.at
