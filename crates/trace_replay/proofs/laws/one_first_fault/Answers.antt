use Rattle.trace_replay.proofs.Firsts.{one_first}
use Rattle.trace_replay.proofs.laws.one_first_fault.Goals as goal

pub returns : goal.returns
returns c terms text q r f g = one_first terms text q r f g
