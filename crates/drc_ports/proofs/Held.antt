-- A search through a list of files.
use Rattle.std.proofs.Common.{◌≡◌, ℕ, zero, suc, ◌+◌, ◌<◌, List, [], ◌∷◌, length, drop, get_or, if◌then◌else◌, Some, refl, arith, add-one, true, ◌∙◌, sym, ap, ◌++◌, set}
use Rattle.std.specs.Str.{bytes_eq}
use Rattle.drc_ports.specs.declared.held_file.HeldFile.{HeldFile}
use Rattle.drc_ports.specs.Held.{first_of, bytes_at, FirstGrows}

-- the file at a place is the one that is meant, or the search goes on behind it
from_here : (files : List HeldFile) (i : ℕ) (name : List ℕ) (d : HeldFile) → i < length files
    → first_of (drop i files) name ≡ (if bytes_eq (get_or files i d).name name then Some (bytes_at i files) else first_of (drop (suc i) files) name)
from_here [] i name d h = absurd (omega arith)
from_here (file ∷ files) zero name d h = refl
from_here (file ∷ files) (suc i) name d h = from_here files i name d (omega arith)

pub step : (files : List HeldFile) (i : ℕ) (name : List ℕ) (d : HeldFile) → i < length files
    → first_of (drop i files) name ≡ (if bytes_eq (get_or files i d).name name then Some (bytes_at i files) else first_of (drop (i + 1) files) name)
step files i name d h = rw add-one (from_here files i name d h)

-- the file at a place is the first of its name from there on
pub here : (files : List HeldFile) (i : ℕ) (name : List ℕ) (d : HeldFile) → i < length files → d ≡ get_or files i d → bytes_eq d.name name ≡ true
    → first_of (drop i files) name ≡ Some (bytes_at i files)
here files i name d h is same =
    from_here files i name d h ∙ rw (sym (ap (λ (f : HeldFile). bytes_eq f.name name) is) ∙ same) refl

-- other bytes in the first file
pub grows : (files : List HeldFile) (first after : HeldFile) (piece : List ℕ) → 0 < length files → first ≡ get_or files 0 first → after.name ≡ first.name → after.bytes.items ≡ first.bytes.items ++ piece
    → FirstGrows piece files (set files 0 after)
grows [] first after piece h is name bytes = absurd (omega arith)
grows (file ∷ files) first after piece h is name bytes = record {
  before = first;
  after = after;
  others = files;
  was = ap (λ (f : HeldFile). f ∷ files) (sym is);
  is = refl;
  name = name;
  bytes = bytes;
}

-- the bytes of the file at a place
pub bytes_found : (files : List HeldFile) (place : ℕ) (file : HeldFile) → place < length files → file ≡ get_or files place file → bytes_at place files ≡ file.bytes.items
bytes_found [] place file h is = absurd (omega arith)
bytes_found (first ∷ files) zero file h is = ap (λ (f : HeldFile). f.bytes.items) (sym is)
bytes_found (first ∷ files) (suc place) file h is = bytes_found files place file (omega arith) is
