-- What a replay answers where it doesn't give what a run came to: the first fault, or that memory ran out.
use Rattle.std.specs.Prelude.{ℕ, List}
use Rattle.trace_text.specs.declared.fault.TraceFault.{TraceFault}
use Rattle.trace_text.specs.declared.fault.TraceFault.TheVariants.{Refused, Memory}
use Rattle.trace_text.specs.Refusals.{Terms, IsFirstFault}

abbrev pub FailsToReplay : Terms → List ℕ → TraceFault → Type 0
FailsToReplay terms text (Refused r) = IsFirstFault terms text r
FailsToReplay terms text Memory = Unit {0}
