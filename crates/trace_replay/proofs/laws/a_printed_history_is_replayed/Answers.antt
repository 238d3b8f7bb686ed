use Rattle.trace_replay.proofs.Reprinted.{reprints}
use Rattle.trace_replay.proofs.laws.a_printed_history_is_replayed.Goals as goal

pub returns : goal.returns
returns c ws cost h text l k some few p = (p.costs, p.spells, reprints ws cost h p.costs l k some few p.charges)
