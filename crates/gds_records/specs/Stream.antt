-- What a Framer stands for, and what taking a record does.
use Rattle.std.specs.Prelude.{◌≡◌, ◌⊎◌, ℕ, ◌+◌, List, [], ◌++◌, length, Bool, true, false, ◌==◌, if◌then◌else◌, Option, Some, None, Result, Ok, Err}
use Rattle.gds_records.specs.declared.record.Record.{Record}
use Rattle.gds_records.specs.declared.fault.LayoutKind.{LayoutKind}
use Rattle.gds_records.specs.declared.fault.LayoutKind.TheVariants as kinds
use Rattle.gds_records.specs.declared.fault.LayoutRefusal.{LayoutRefusal}
use Rattle.gds_records.specs.declared.fault.LayoutFault.{LayoutFault}
use Rattle.gds_records.specs.declared.fault.LayoutFault.TheVariants as faults
use Rattle.gds_records.specs.Records.{Item, size_of, spelling, endlib, IsTooLong, IsBadLength, IsGoodLength, IsPartial}

-- the offset of the next record, the bytes that were fed from there on, and whether ENDLIB was taken
pub record Stream : Type 0 where
  pub at : ℕ
  pub left : List ℕ
  pub ended : Bool

-- a record without where it lies in memory
abbrev pub item_of : Record → Item
item_of taken = record { at = taken.at; kind = taken.kind; form = taken.form; body = taken.body.items }

-- the header of these bytes, which begin at this offset, is refused so
abbrev pub IsRefusedAs : LayoutKind → ℕ → List ℕ → Type 0
IsRefusedAs kinds.LayoutTooLong at bytes = IsTooLong at bytes
IsRefusedAs kinds.BadLength at bytes = IsBadLength at bytes
IsRefusedAs kind at bytes = ⊥

-- What take answers: the record at the front, which leaves; or nothing, where no further one is whole or ENDLIB was
-- taken; or the refusal of the header at the front. All but the first change nothing.
abbrev pub Takes : Stream → Result (Option Record) LayoutFault → Stream → Type 0
Takes old (Ok (Some taken)) new =
    (old.ended ≡ false) × (taken.at ≡ old.at) × IsGoodLength old.at (size_of (item_of taken))
    × (old.left ≡ spelling (item_of taken) ++ new.left)
    × (new.at ≡ old.at + size_of (item_of taken)) × (new.ended ≡ (taken.kind == endlib))
Takes old (Ok None) new = (new ≡ old) × ((old.ended ≡ true) ⊎ IsPartial old.at old.left)
Takes old (Err (faults.Refused refusal)) new =
    (new ≡ old) × (old.ended ≡ false) × (refusal.at ≡ old.at) × IsRefusedAs refusal.kind old.at old.left
Takes old (Err faults.Memory) new = new ≡ old

-- a stream of which nothing has come
abbrev pub start_of_stream : Stream
start_of_stream = record { at = 0; left = []; ended = false }

-- the refusal of a stream that ends here: truncated at its end, unless ENDLIB was taken
abbrev pub truncation : Stream → Option LayoutRefusal
truncation stream =
    if stream.ended then None else Some (record { at = stream.at + length stream.left; kind = kinds.Truncated })
