-- What a MemoryFiles stands for: the files that it holds, and those that were made, the newest first.
use Rattle.std.specs.Prelude.{ℕ, List, [], Option, Some, None, is_some}
use Rattle.drc_ports.specs.declared.held_file.HeldFile.{HeldFile}
use Rattle.drc_ports.specs.declared.memory.MemoryFiles.{MemoryFiles}
use Rattle.drc_ports.specs.declared.plan.Plan.{Plan}
use Rattle.drc_ports.specs.declared.reading.Reading.{Reading}
use Rattle.drc_ports.specs.Files.{Tally, Contents}
use Rattle.drc_ports.specs.Held.{first_of, first_name, left_at}
use Rattle.drc_ports.specs.Tallies.{tally_of}

-- what is unread, where a file is being read
abbrev pub unread : Option Reading → List HeldFile → List ℕ
unread None files = []
unread (Some reading) files = left_at reading files

abbrev pub memory_tally : MemoryFiles → Tally
memory_tally files = tally_of files.counts (is_some files.reading) files.writing

abbrev pub memory_contents : MemoryFiles → Contents
memory_contents files = record {
  held = first_of files.held.items;
  left = unread files.reading files.held.items;
  made = first_of files.made.items;
  target = first_name files.made.items;
  said = files.said.items;
}

-- these files can be read, and nothing was read, created or said yet
abbrev pub holding : List HeldFile → Contents
holding files = record { held = first_of files; left = []; made = λ _. None; target = []; said = [] }

-- how much a call transfers at most, and which calls are to fail
abbrev pub memory_plan : MemoryFiles → Plan
memory_plan files = files.plan
