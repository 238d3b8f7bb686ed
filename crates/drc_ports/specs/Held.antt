-- Lists of files in memory. A name stands for the first file that has it.
use Rattle.std.specs.Prelude.{◌≡◌, ℕ, List, [], ◌∷◌, ◌++◌, Option, Some, None, drop, if◌then◌else◌}
use Rattle.std.specs.List.{slice_get}
use Rattle.std.specs.Str.{bytes_eq}
use Rattle.drc_ports.specs.declared.held_file.HeldFile.{HeldFile}
use Rattle.drc_ports.specs.declared.reading.Reading.{Reading}

-- the bytes of the first file of a name
abbrev pub first_of : List HeldFile → List ℕ → Option (List ℕ)
first_of [] name = None
first_of (file ∷ files) name = if bytes_eq file.name name then Some file.bytes.items else first_of files name

abbrev pub bytes_of : Option HeldFile → List ℕ
bytes_of None = []
bytes_of (Some file) = file.bytes.items

-- the bytes of the file at a place
abbrev pub bytes_at : ℕ → List HeldFile → List ℕ
bytes_at place files = bytes_of (slice_get files place)

-- what is unread of the file being read
abbrev pub left_at : Reading → List HeldFile → List ℕ
left_at reading files = drop reading.position (bytes_at reading.file files)

-- the name of the first file
abbrev pub first_name : List HeldFile → List ℕ
first_name [] = []
first_name (file ∷ files) = file.name

-- the first file has more bytes by this piece, and nothing else is changed
pub record FirstGrows (piece : List ℕ) (old new : List HeldFile) : Type 0 where
  pub before : HeldFile
  pub after : HeldFile
  pub others : List HeldFile
  pub was : old ≡ before ∷ others
  pub is : new ≡ after ∷ others
  pub name : after.name ≡ before.name
  pub bytes : after.bytes.items ≡ before.bytes.items ++ piece
