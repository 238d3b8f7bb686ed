-- Steps that are done, and steps that fail: what each does to an object that reads, writes and says. Its tally is always
-- known, its contents where it tells.
use Rattle.std.specs.Prelude.{◌≡◌, ◌⊎◌, ℕ, ◌<◌, List, [], ◌∷◌, ◌++◌, length, Bool, true, false, IsTrue, Some}
use Rattle.drc_ports.specs.Counts.{one_more}
use Rattle.drc_ports.specs.Files.{Tally, Contents, World, HasNow}
use Rattle.drc_cli.specs.Outcome.{Step, reads, writes, says}

-- ---- A step that is done

-- a file that is read or made is one more that was begun, and its name is the last that was opened
abbrev pub tally_after : Step → Tally → Tally
tally_after (reads which name bytes) old = record old { begun = one_more old.begun; opened = name; started = true }
tally_after (writes which name text) old = record old { begun = one_more old.begun; opened = name; writing = true }
tally_after (says text) old = old

-- a file that is read holds these bytes; one that is made has this text, and each other file is as before; what is said
-- stands behind what was said; and nothing else changes, but for what is left to read
abbrev pub Changes : Step → Contents → Contents → Type 0
Changes (reads which name bytes) old new = (old.held name ≡ Some bytes) × (new ≡ record old { left = new.left })
Changes (writes which name text) old new =
    HasNow name text old.made new.made × (new ≡ record old { made = new.made; target = name })
Changes (says text) old new = new ≡ record old { said = old.said ++ text }

pub record IsDone (tells : Bool) (step : Step) (old new : World) : Type 0 where
  pub tally : new.tally ≡ tally_after step old.tally
  pub contents : IsTrue tells → Changes step old.contents new.contents

-- steps that are done, one after the other
abbrev pub AreDone : (tells : Bool) → List Step → World → World → Type 0
AreDone tells [] old new = new ≡ old
AreDone tells (step ∷ steps) old new = (next : World) × IsDone tells step old next × AreDone tells steps next new

-- ---- A step that fails

-- one more failure to read, to write or to say
abbrev pub with_fault : Step → Tally → Tally
with_fault (reads which name bytes) old = record old { read_faults = one_more old.read_faults }
with_fault (writes which name text) old = record old { write_faults = one_more old.write_faults }
with_fault (says text) old = record old { say_faults = one_more old.say_faults }

-- the tally where the file can't be opened: afterwards no file is being written, if it was to be made
abbrev pub FailsToOpen : Step → Tally → Tally → Type 0
FailsToOpen (reads which name bytes) old new =
    new ≡ record old { begun = one_more old.begun; opened = name; read_faults = one_more old.read_faults }
FailsToOpen (writes which name text) old new =
    new ≡ record old { begun = one_more old.begun; opened = name; writing = false; write_faults = one_more old.write_faults }
FailsToOpen (says text) old new = ⊥

-- the file can't be opened: nothing but the tally changes
pub record IsUnopened (tells : Bool) (step : Step) (old new : World) : Type 0 where
  pub tally : FailsToOpen step old.tally new.tally
  pub contents : IsTrue tells → new.contents ≡ old.contents

-- a front of a text, which isn't the whole
pub record IsCutShort (text front : List ℕ) : Type 0 where
  pub rest : List ℕ
  pub parts : text ≡ front ++ rest
  pub short : 0 < length rest

-- what a step changes that is done in part: of a text, a front alone is written or said
abbrev pub ChangesInPart : Step → Contents → Contents → Type 0
ChangesInPart (reads which name bytes) old new = new ≡ record old { left = new.left }
ChangesInPart (writes which name text) old new =
    (front : List ℕ) × IsCutShort text front × Changes (writes which name front) old new
ChangesInPart (says text) old new = (front : List ℕ) × IsCutShort text front × Changes (says front) old new

-- the step is broken off by a call that fails
pub record IsBrokenOff (tells : Bool) (step : Step) (old new : World) : Type 0 where
  pub tally : new.tally ≡ with_fault step (tally_after step old.tally)
  pub contents : IsTrue tells → ChangesInPart step old.contents new.contents

abbrev pub Fails : (tells : Bool) → Step → World → World → Type 0
Fails tells step old new = IsUnopened tells step old new ⊎ IsBrokenOff tells step old new

-- the step is done, or fails
abbrev pub IsTried : (tells : Bool) → Step → World → World → Type 0
IsTried tells step old new = IsDone tells step old new ⊎ Fails tells step old new
