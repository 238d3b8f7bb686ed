use Rattle.ledger_core.proofs.tests.+release_all.Given as goal

abbrev pub decreases-release_all : goal.decreases-release_all
decreases-release_all g l = l.most
