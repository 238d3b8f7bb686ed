use Rattle.trace_replay.proofs.Firsts.{no_fault}
use Rattle.trace_replay.proofs.laws.replayed_has_no_fault.Goals as goal

pub returns : goal.returns
returns c terms text t line reason s short m f = no_fault terms text t line reason s short m f
