-- For which fact of its records a stream is refused: those of each record by itself, and the name of a structure that an
-- earlier structure has.
use Rattle.std.specs.Prelude.{◌≡◌, ℕ, ◌==◌, if◌then◌else◌, Bool, false, List, [], ◌∷◌, ◌++◌, IsTrue}
use Rattle.std.specs.List.{list_any}
use Rattle.std.specs.Str.{bytes_eq}
use Rattle.gds_records.specs.declared.record_type.RecordType.TheVariants as types
use Rattle.gds_records.specs.declared.fault.LayoutKind.{LayoutKind}
use Rattle.gds_records.specs.declared.fault.LayoutKind.TheVariants as kinds
use Rattle.gds_records.specs.declared.fault.LayoutRefusal.{LayoutRefusal}
use Rattle.gds_records.specs.declared.fault.LayoutFault.{LayoutFault}
use Rattle.gds_records.specs.declared.fault.LayoutFault.TheVariants as faults
use Rattle.gds_records.specs.RecordTypes.{code_of}
use Rattle.gds_records.specs.Records.{Item}
use Rattle.gds_facts.specs.Facts.{AreFine, IsFact, HasTaken}
use Rattle.gds_library.specs.declared.builder.Builder.{Builder}
use Rattle.gds_library.specs.declared.builder.Standing.{Standing}
use Rattle.gds_library.specs.declared.builder.Standing.TheVariants as standings
use Rattle.gds_library.specs.Fields.{name}
use Rattle.gds_library.specs.Drafts.{Draft, first_draft, steps}

-- one of the names is this
abbrev pub has_name : List (List ℕ) → List ℕ → Bool
has_name names those = list_any (bytes_eq those) names

-- no name stands twice
abbrev pub AreDistinct : List (List ℕ) → Type 0
AreDistinct [] = Unit {0}
AreDistinct (those ∷ names) = (has_name names those ≡ false) × AreDistinct names

-- the names of structures, in order
abbrev pub names_in : List Item → List (List ℕ)
names_in [] = []
names_in (item ∷ items) = if item.kind == code_of types.StructureName then name item.body ∷ names_in items else names_in items

-- the record names a structure as one of these is named
abbrev pub IsDuplicate : List Item → Item → Type 0
IsDuplicate items item = (item.kind ≡ code_of types.StructureName) × IsTrue (has_name (names_in items) (name item.body))

-- behind these records the next one is refused so
abbrev pub IsStreamFact : (precision : ℕ) → List Item → Item → LayoutKind → Type 0
IsStreamFact precision items item kinds.DuplicateStructure = AreFine precision (items ++ item ∷ []) × IsDuplicate items item
IsStreamFact precision items item kind = IsFact precision items item kind

-- these records are the front of a stream, and none of them is refused
pub record AreAccepted (precision : ℕ) (items : List Item) : Type 0 where
  pub fine : AreFine precision items
  pub distinct : AreDistinct (names_in items)

-- a list of records is refused so: for the first of them that has a fact
pub record IsRefused (precision : ℕ) (items : List Item) (refusal : LayoutRefusal) : Type 0 where
  pub before : List Item
  pub item : Item
  pub after : List Item
  pub parts : items ≡ before ++ item ∷ after
  pub accepted : AreAccepted precision before
  pub offset : refusal.at ≡ item.at
  pub fact : IsStreamFact precision before item refusal.kind

-- behind these records the next one ends the reading so
abbrev pub IsFaultAt : (precision : ℕ) → List Item → Item → LayoutFault → Type 0
IsFaultAt precision items item (faults.Refused refusal) =
    AreAccepted precision items × (refusal.at ≡ item.at) × IsStreamFact precision items item refusal.kind
IsFaultAt precision items item faults.Memory = Unit {0}

-- ---- The builder

-- these are the names of the structures of these records, and none of them stands twice
pub record Knows (items : List Item) (names : List (List ℕ)) : Type 0 where
  pub same : (those : List ℕ) → has_name names those ≡ has_name (names_in items) those
  pub distinct : AreDistinct (names_in items)

-- it has taken these records
pub record Follows (items : List Item) (builder : Builder) : Type 0 where
  pub standing : builder.standing ≡ standings.Open
  pub checked : HasTaken items builder.checker
  pub names : Knows items builder.names
  pub draft : builder.draft ≡ steps builder.keep items first_draft

-- it has failed so
abbrev pub standing_of : LayoutFault → Standing
standing_of (faults.Refused refusal) = standings.Refused refusal
standing_of faults.Memory = standings.OutOfMemory

abbrev pub HasFailed : LayoutFault → Builder → Type 0
HasFailed fault builder = builder.standing ≡ standing_of fault
