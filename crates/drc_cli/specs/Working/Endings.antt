-- The status and the line of what ends a command before it writes.
use Rattle.std.specs.Prelude.{ℕ, List, Result, Ok, Err}
use Rattle.drc_cli.specs.declared.answer.Status.{Status}
use Rattle.drc_cli.specs.declared.answer.Status.TheVariants as status
use Rattle.drc_cli.specs.declared.answer.Which.TheVariants as which
use Rattle.drc_ports.specs.declared.failed.Failed.{Failed}
use Rattle.drc_cli.specs.declared.ending.Ending.{Ending}
use Rattle.drc_cli.specs.declared.ending.Ending.TheVariants as ending
use Rattle.drc_cli.specs.declared.lines.Reason.{Reason}
use Rattle.drc_cli.specs.Lines.{Refusal, deck_line, layout_line, read_line, memory_line}

abbrev pub status_of : Ending → Status
status_of (ending.Deck refusal detail) = status.Deck refusal
status_of (ending.Layout refusal) = status.Layout refusal
status_of (ending.ReadFault file name) = status.ReadFault file
status_of ending.Memory = status.NoMemory

abbrev pub line_of : Ending → List ℕ
line_of (ending.Deck refusal detail) = deck_line refusal detail
line_of (ending.Layout refusal) = layout_line refusal
line_of (ending.ReadFault file name) = read_line name
line_of ending.Memory = memory_line

-- a refusal without where its texts lie in memory
abbrev pub refusal_of : Reason → Refusal
refusal_of reason = record { number = reason.number; at = reason.at; word = reason.word.now; detail = reason.detail.now }

-- the status of a command that is done but for its line
abbrev pub said_status : Result (Unit {0}) Failed → Status
said_status (Ok _) = status.Done
said_status (Err _) = status.WriteFault which.Output
