-- The exit status of each answer.
use Rattle.std.specs.Prelude.{ℕ}
use Rattle.drc_cli.specs.declared.answer.Status.{Status}
use Rattle.drc_cli.specs.declared.answer.Status.TheVariants as status

abbrev pub exit_status_of : Status → ℕ
exit_status_of status.Done = 0
exit_status_of status.Words = 2
exit_status_of (status.Deck refusal) = 3
exit_status_of (status.Layout refusal) = 4
exit_status_of (status.ReadFault file) = 5
exit_status_of (status.WriteFault file) = 6
exit_status_of status.NoMemory = 7
