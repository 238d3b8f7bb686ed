-- Working words of cutting: what stands at the front of bytes, and what is known of a stream between two pieces.
use Rattle.std.specs.Prelude.{◌≡◌, ◌⊎◌, ℕ, List, ◌++◌, drop, true, false, Option, Some, None, Result, Ok, Err}
use Rattle.gds_records.specs.declared.record.Record.{Record}
use Rattle.gds_records.specs.declared.fault.LayoutFault.{LayoutFault}
use Rattle.gds_records.specs.declared.fault.LayoutFault.TheVariants as faults
use Rattle.gds_records.specs.Records.{Item, size_of, spelling, Cuts, EndsLibrary, end_of, IsGoodLength, IsPartial}
use Rattle.gds_records.specs.Stream.{Stream, item_of, IsRefusedAs}

-- at the front of bytes that begin at some offset: a record, less than one, or a header that is refused
abbrev pub StartsWith : ℕ → List ℕ → Result (Option Record) LayoutFault → Type 0
StartsWith at bytes (Ok (Some first)) =
    (first.at ≡ at) × IsGoodLength at (size_of (item_of first))
    × (bytes ≡ spelling (item_of first) ++ drop (size_of (item_of first)) bytes)
StartsWith at bytes (Ok None) = IsPartial at bytes
StartsWith at bytes (Err (faults.Refused refusal)) = (refusal.at ≡ at) × IsRefusedAs refusal.kind at bytes
StartsWith at bytes (Err faults.Memory) = Unit {0}

-- of the bytes that were fed these records were taken
pub record HasTaken (bytes : List ℕ) (items : List Item) (stream : Stream) : Type 0 where
  pub cut : Cuts bytes items stream.left
  pub behind : stream.at ≡ end_of items
  pub ended : stream.ended ≡ true → EndsLibrary items
  pub goes_on : stream.ended ≡ false → EndsLibrary items → ⊥

-- no further record is whole, and no header is refused
abbrev pub IsDry : Stream → Type 0
IsDry stream = (stream.ended ≡ true) ⊎ IsPartial stream.at stream.left

-- What is known after the whole records were taken: nothing more can be, or the next header is refused.
abbrev pub TakesWhole : List ℕ → Result (Unit {0}) LayoutFault → List Item → Stream → Type 0
TakesWhole bytes (Ok _) items stream = HasTaken bytes items stream × IsDry stream
TakesWhole bytes (Err (faults.Refused refusal)) items stream =
    HasTaken bytes items stream × (stream.ended ≡ false) × (refusal.at ≡ stream.at)
    × IsRefusedAs refusal.kind stream.at stream.left
TakesWhole bytes (Err faults.Memory) items stream = Unit {0}
