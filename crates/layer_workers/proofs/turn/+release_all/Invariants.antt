use Rattle.std.proofs.Common.{◌-◌}
use Rattle.layer_workers.proofs.turn.+release_all.Given as goal

abbrev pub decreases-release_all : goal.decreases-release_all
decreases-release_all g l = 3 - l.published.released
