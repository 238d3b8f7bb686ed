-- What is pushed, and the lines that are left, make the whole.
use Rattle.std.proofs.Common.{◌≡◌, ◌++◌, drop}
use Rattle.std.specs.List.{flat_map}
use Rattle.results_db.specs.Reports.{line_text}
use Rattle.results_db.proofs.push.push_notes.Given as goal

abbrev pub invariant-loop-note : goal.invariant-loop-note
invariant-loop-note l =
    l.text.items ++ flat_map line_text (drop l.note-index l.notes) ≡ l.initial.text.items ++ flat_map line_text l.notes
