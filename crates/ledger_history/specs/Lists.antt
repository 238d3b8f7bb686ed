-- A setup that is given by lists.
use Rattle.ledger_history.specs.declared.setup.SetupLists.{SetupLists}
use Rattle.ledger_history.specs.Histories.{Setup, setup_of_lists}

abbrev pub setup_of : SetupLists → Setup
setup_of l = setup_of_lists l.wires.now l.costs.now l.budget l.workers
