-- Failures that are planned: the nth call of a method, counted from 1, is to fail.
use Rattle.std.specs.Prelude.{ℕ, Contains}
use Rattle.drc_ports.specs.declared.plan.CallKind.{CallKind}
use Rattle.drc_ports.specs.declared.plan.CallKind.TheVariants.{BeginRead, Read, Create, Write, Say}
use Rattle.drc_ports.specs.declared.plan.Calls.{Calls}
use Rattle.drc_ports.specs.declared.plan.Plan.{Plan}
use Rattle.drc_ports.specs.Counts.{one_more}

abbrev pub no_calls : Calls
no_calls = record { begin_read = 0; read = 0; create = 0; write = 0; say = 0 }

-- how often a method was called
abbrev pub calls_of : CallKind → Calls → ℕ
calls_of BeginRead calls = calls.begin_read
calls_of Read calls = calls.read
calls_of Create calls = calls.create
calls_of Write calls = calls.write
calls_of Say calls = calls.say

-- with one more call of a method
abbrev pub with_call : CallKind → Calls → Calls
with_call BeginRead calls = record calls { begin_read = one_more calls.begin_read }
with_call Read calls = record calls { read = one_more calls.read }
with_call Create calls = record calls { create = one_more calls.create }
with_call Write calls = record calls { write = one_more calls.write }
with_call Say calls = record calls { say = one_more calls.say }

abbrev pub called : CallKind → Plan → Plan
called call plan = record plan { calls = with_call call plan.calls }

-- the next call of a method is to fail
abbrev pub IsPlanned : CallKind → Plan → Type 0
IsPlanned call plan = Contains plan.fails.items (record { call = call; nth = one_more (calls_of call plan.calls) })
