-- Working words of the end of a replay, where every event that was read was allowed.
use Rattle.std.specs.Prelude.{◌≡◌, ℕ, ◌+◌, Bool, true, false, [], length, Result, Ok, Err}
use Rattle.trace_text.specs.declared.front.Front.{Front}
use Rattle.trace_text.specs.declared.place.LinePlace.TheVariants.{Nothing}
use Rattle.trace_text.specs.declared.fault.TraceReason.{TraceReason}
use Rattle.trace_text.specs.declared.fault.TraceReason.TheVariants.{Syntax, Unfinished}
use Rattle.trace_text.specs.declared.fault.TraceFault.{TraceFault}
use Rattle.trace_text.specs.declared.fault.TraceFault.TheVariants.{Refused, Memory}
use Rattle.trace_replay.specs.declared.summary.Summary.{Summary}

-- the text was read to its end, and every operation is finished
pub record IsAtEnd (f : Front) (complete : Bool) : Type 0 where
  pub ended : f.place ≡ Nothing
  pub finished : complete ≡ true
  pub whole : f.rest.now ≡ []

-- why it is refused at this line
abbrev pub EndsBadly : Front → Bool → ℕ → TraceReason → Type 0
EndsBadly f complete line Syntax = (line ≡ f.lines + 1) × (f.place ≡ Nothing → (complete ≡ true) × (f.rest.now ≡ [] → ⊥))
EndsBadly f complete line Unfinished = (line ≡ f.lines) × (f.place ≡ Nothing) × (complete ≡ false)
EndsBadly f complete line reason = ⊥

abbrev pub Concludes : Front → Bool → ℕ → Result Summary TraceFault → Type 0
Concludes f complete peak (Ok s) = IsAtEnd f complete × (s.operations ≡ f.trace.history.operations) × (s.events ≡ length f.trace.history.events.items) × (s.peak ≡ peak)
Concludes f complete peak (Err (Refused r)) = EndsBadly f complete r.line r.reason
Concludes f complete peak (Err Memory) = ⊥
