-- The records of a GDSII stream (GDSII Stream Format, Release 6): a record is two bytes of length, high byte first,
-- which count the whole record, a byte of record type, a byte of data type, and data. The lengths alone cut the stream.
use Rattle.std.specs.Prelude.{◌≡◌, ◌≢◌, ◌⊎◌, ℕ, ◌+◌, ◌*◌, ◌/◌, ◌%◌, ◌^◌, ◌<◌, ◌≤◌, List, [], ◌∷◌, ◌++◌, length}
use Rattle.std.specs.List.{flat_map}
use Rattle.gds_records.specs.declared.record_type.RecordType.{RecordType}
use Rattle.gds_records.specs.declared.record_type.RecordType.TheVariants as types
use Rattle.gds_records.specs.declared.data_form.DataForm.{DataForm}
use Rattle.gds_records.specs.RecordTypes.{code_of, form_code_of}

-- a record, and the offset of its first byte
pub record Item : Type 0 where
  pub at : ℕ
  pub kind : ℕ
  pub form : ℕ
  pub body : List ℕ

-- how many bytes a record has
abbrev pub size_of : Item → ℕ
size_of item = 4 + length item.body

-- the bytes of a record
abbrev pub spelling : Item → List ℕ
spelling item = size_of item / 256 ∷ size_of item % 256 ∷ item.kind ∷ item.form ∷ item.body

-- a record of this type, with data of this form
pub record IsOf (type : RecordType) (form : DataForm) (item : Item) : Type 0 where
  pub type_byte : item.kind ≡ code_of type
  pub form_byte : item.form ≡ form_code_of form

-- the byte of ENDLIB, after which nothing is read
abbrev pub endlib : ℕ
endlib = code_of types.EndLibrary

-- a layout has at most so many bytes, counted to the end of ENDLIB
abbrev pub longest_layout : ℕ
longest_layout = 2 ^ 30

-- ---- Headers

-- the length that a header says
abbrev pub said_length : List ℕ → ℕ
said_length (high ∷ low ∷ rest) = 256 * high + low
said_length bytes = 0

-- the bytes from an offset on begin with a header by which the record ends too far
pub record IsTooLong (at : ℕ) (bytes : List ℕ) : Type 0 where
  pub header : 4 ≤ length bytes
  pub far : longest_layout < at + said_length bytes

-- they begin with a header whose length is odd or too small for a header
pub record IsBadLength (at : ℕ) (bytes : List ℕ) : Type 0 where
  pub header : 4 ≤ length bytes
  pub near : at + said_length bytes ≤ longest_layout
  pub bad : (said_length bytes < 4) ⊎ (said_length bytes % 2 ≡ 1)

-- a length that a record may have
pub record IsGoodLength (at length : ℕ) : Type 0 where
  pub near : at + length ≤ longest_layout
  pub header : 4 ≤ length
  pub even : length % 2 ≡ 0

-- they hold less than a header, or a good header and less than its record
abbrev pub IsPartial : (at : ℕ) (bytes : List ℕ) → Type 0
IsPartial at bytes = (length bytes < 4) ⊎ (IsGoodLength at (said_length bytes) × (length bytes < said_length bytes))

-- ---- Records one after the other

-- The records stand one after the other from this offset on, each with a good length; only the last may be ENDLIB.
abbrev pub ArePlaced : (at : ℕ) → List Item → Type 0
ArePlaced at [] = Unit {0}
ArePlaced at (item ∷ []) = (item.at ≡ at) × IsGoodLength at (size_of item)
ArePlaced at (item ∷ next ∷ items) =
    (item.at ≡ at) × IsGoodLength at (size_of item) × (item.kind ≢ endlib) × ArePlaced (at + size_of item) (next ∷ items)

-- the bytes are these records and then the rest
pub record Cuts (bytes : List ℕ) (items : List Item) (rest : List ℕ) : Type 0 where
  pub whole : bytes ≡ flat_map spelling items ++ rest
  pub placed : ArePlaced 0 items

-- the offset behind the records
abbrev pub end_of : List Item → ℕ
end_of items = length (flat_map spelling items)

-- is the last of the records ENDLIB?
abbrev pub EndsLibrary : List Item → Type 0
EndsLibrary [] = ⊥
EndsLibrary (item ∷ []) = item.kind ≡ endlib
EndsLibrary (item ∷ next ∷ items) = EndsLibrary (next ∷ items)

-- behind the records, which don't end the library, comes this one, whole and with a good length, and then more
pub record ComesNext (items : List Item) (rest : List ℕ) (item : Item) (more : List ℕ) : Type 0 where
  pub goes_on : EndsLibrary items → ⊥
  pub whole : rest ≡ spelling item ++ more
  pub here : item.at ≡ end_of items
  pub good : IsGoodLength (end_of items) (size_of item)

-- no further record can be taken: the library has ended, or the rest is less than a record or is refused
abbrev pub IsEnd : List Item → List ℕ → Type 0
IsEnd items rest =
    EndsLibrary items ⊎ IsPartial (end_of items) rest ⊎ IsTooLong (end_of items) rest ⊎ IsBadLength (end_of items) rest

-- these are the records of the bytes
pub record AreRecords (bytes : List ℕ) (items : List Item) (rest : List ℕ) : Type 0 where
  pub cut : Cuts bytes items rest
  pub all : IsEnd items rest
