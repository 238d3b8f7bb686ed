-- What a Files object stands for, and what each of its calls does to that.
use Rattle.std.specs.Prelude.{◌≡◌, ◌≢◌, ℕ, ◌<◌, ◌≤◌, List, [], ◌++◌, length, take, Bool, true, false, Option, Some, Result, Ok, Err}
use Rattle.drc_ports.specs.declared.failed.Failed.{Failed}
use Rattle.drc_ports.specs.Counts.{one_more}

-- ---- What is known of every object

pub record Tally : Type 0 where
  -- how often a read, a write and a say have failed
  pub read_faults : ℕ
  pub write_faults : ℕ
  pub say_faults : ℕ
  -- how many calls of begin_read and of create there were, and the name that the last of them was given
  pub begun : ℕ
  pub opened : List ℕ
  -- has a begin_read succeeded, and did the last create?
  pub started : Bool
  pub writing : Bool

-- ---- What is known of one that tells

pub record Contents : Type 0 where
  -- the files that can be read, by name
  pub held : List ℕ → Option (List ℕ)
  -- what is unread of the file being read
  pub left : List ℕ
  -- the files that were created, by name, and the name of the one being written
  pub made : List ℕ → Option (List ℕ)
  pub target : List ℕ
  -- what was said
  pub said : List ℕ

-- ---- Both

pub record World : Type 0 where
  pub tally : Tally
  pub contents : Contents

abbrev pub world : Tally → Contents → World
world tally contents = record { tally = tally; contents = contents }

-- ---- The calls, by what they answer. A call that fails changes nothing but the tally.

-- begin_read opens a file that is held at its first byte
abbrev pub begin_read_tally : List ℕ → Result (Unit {0}) Failed → Tally → Tally
begin_read_tally name (Ok _) old = record old { begun = one_more old.begun; opened = name; started = true }
begin_read_tally name (Err _) old = record old { begun = one_more old.begun; opened = name; read_faults = one_more old.read_faults }

abbrev pub BeginsRead : List ℕ → Result (Unit {0}) Failed → Contents → Contents → Type 0
BeginsRead name (Ok _) old new = (bytes : List ℕ) × (old.held name ≡ Some bytes) × (new ≡ record old { left = bytes })
BeginsRead name (Err _) old new = new ≡ old

-- read takes the front of what is left, into the front of the buffer; nothing only where nothing is left
abbrev pub read_tally : Result ℕ Failed → Tally → Tally
read_tally (Ok _) old = old
read_tally (Err _) old = record old { read_faults = one_more old.read_faults }

abbrev pub Reads : List ℕ → Result ℕ Failed → Contents → Contents → Type 0
Reads buffer (Ok count) old new =
    (rest : List ℕ) × (old.left ≡ take count buffer ++ rest) × (count ≡ 0 → rest ≡ []) × (new ≡ record old { left = rest })
Reads buffer (Err _) old new = new ≡ old

-- create makes an empty file, which is the one being written from then on
abbrev pub create_tally : List ℕ → Result (Unit {0}) Failed → Tally → Tally
create_tally name (Ok _) old = record old { begun = one_more old.begun; opened = name; writing = true }
create_tally name (Err _) old = record old { begun = one_more old.begun; opened = name; writing = false; write_faults = one_more old.write_faults }

-- the map of files has these bytes at a name, and what it had at each other
pub record HasNow (name bytes : List ℕ) (old new : List ℕ → Option (List ℕ)) : Type 0 where
  pub there : new name ≡ Some bytes
  pub others : (other : List ℕ) → other ≢ name → new other ≡ old other

abbrev pub Creates : List ℕ → Result (Unit {0}) Failed → Contents → Contents → Type 0
Creates name (Ok _) old new = HasNow name [] old.made new.made × (new ≡ record old { made = new.made; target = name })
Creates name (Err _) old new = new ≡ old

-- write appends a front of the piece to the file being written, say appends one to what was said: at least a byte
abbrev pub write_tally : Result ℕ Failed → Tally → Tally
write_tally (Ok _) old = old
write_tally (Err _) old = record old { write_faults = one_more old.write_faults }

abbrev pub Writes : List ℕ → Result ℕ Failed → Contents → Contents → Type 0
Writes piece (Ok count) old new =
    (bytes : List ℕ) × (old.made old.target ≡ Some bytes)
    × HasNow old.target (bytes ++ take count piece) old.made new.made × (new ≡ record old { made = new.made })
Writes piece (Err _) old new = new ≡ old

abbrev pub say_tally : Result ℕ Failed → Tally → Tally
say_tally (Ok _) old = old
say_tally (Err _) old = record old { say_faults = one_more old.say_faults }

abbrev pub Says : List ℕ → Result ℕ Failed → Contents → Contents → Type 0
Says piece (Ok count) old new = new ≡ record old { said = old.said ++ take count piece }
Says piece (Err _) old new = new ≡ old

-- how much of a piece was taken: at least a byte, at most all
abbrev pub TakesSome : List ℕ → Result ℕ Failed → Type 0
TakesSome piece (Ok count) = (0 < count) × (count ≤ length piece)
TakesSome piece (Err _) = Unit {0}
