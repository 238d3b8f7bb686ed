use Rattle.ledger_rounds.proofs.run.run_rounds.Given as goal

abbrev pub ghosts-run_named : goal.ghosts-run_named
ghosts-run_named a = record { wiring = a.wiring.now; budget = a.budget }
