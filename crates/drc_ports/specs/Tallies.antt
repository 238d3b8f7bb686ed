-- The tally of an object that counts in a `Counts`, and how the counts go on.
use Rattle.std.specs.Prelude.{◌≡◌, List, ℕ, [], Bool, false, string_bytes}
use Rattle.drc_ports.specs.declared.counts.Counts.{Counts}
use Rattle.drc_ports.specs.Counts.{one_more}
use Rattle.drc_ports.specs.Files.{Tally}

-- the counts, with what may be read and written
abbrev pub tally_of : Counts → (started writing : Bool) → Tally
tally_of counts started writing = record {
  read_faults = counts.read_faults;
  write_faults = counts.write_faults;
  say_faults = counts.say_faults;
  begun = counts.begun;
  opened = string_bytes counts.opened;
  started = started;
  writing = writing;
}

-- nothing was counted, opened, started or created yet
abbrev pub fresh : Tally
fresh = record { read_faults = 0; write_faults = 0; say_faults = 0; begun = 0; opened = []; started = false; writing = false }

-- nothing was counted yet
pub record IsFresh (counts : Counts) : Type 0 where
  pub read_faults : counts.read_faults ≡ 0
  pub write_faults : counts.write_faults ≡ 0
  pub say_faults : counts.say_faults ≡ 0
  pub begun : counts.begun ≡ 0
  pub opened : string_bytes counts.opened ≡ []

-- one more call that opens, by this name
pub record Begins (name : List ℕ) (old new : Counts) : Type 0 where
  pub read_faults : new.read_faults ≡ old.read_faults
  pub write_faults : new.write_faults ≡ old.write_faults
  pub say_faults : new.say_faults ≡ old.say_faults
  pub begun : new.begun ≡ one_more old.begun
  pub opened : string_bytes new.opened ≡ name

-- one more fault
abbrev pub FailsToRead : (old new : Counts) → Type 0
FailsToRead old new = new ≡ record old { read_faults = one_more old.read_faults }

abbrev pub FailsToWrite : (old new : Counts) → Type 0
FailsToWrite old new = new ≡ record old { write_faults = one_more old.write_faults }

abbrev pub FailsToSay : (old new : Counts) → Type 0
FailsToSay old new = new ≡ record old { say_faults = one_more old.say_faults }
