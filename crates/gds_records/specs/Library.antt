-- What the records of a whole stream are, and for what fact it is refused.
use Rattle.std.specs.Prelude.{◌≡◌, ℕ, List, length}
use Rattle.gds_records.specs.declared.fault.LayoutKind.{LayoutKind}
use Rattle.gds_records.specs.declared.fault.LayoutKind.TheVariants as kinds
use Rattle.gds_records.specs.declared.fault.LayoutFault.{LayoutFault}
use Rattle.gds_records.specs.declared.fault.LayoutFault.TheVariants as faults
use Rattle.gds_records.specs.Records.{Item, Cuts, AreRecords, EndsLibrary, end_of, IsTooLong, IsBadLength, IsPartial}

-- the bytes are these records, the last of them ENDLIB, and whatever stands behind it
abbrev pub IsLibrary : List ℕ → List Item → Type 0
IsLibrary bytes items = EndsLibrary items × ((rest : List ℕ) × AreRecords bytes items rest)

-- the bytes are refused so, where records end at an offset and the rest stands behind them
abbrev pub IsRefusedBehind : LayoutKind → ℕ → List ℕ → ℕ → List ℕ → Type 0
IsRefusedBehind kinds.LayoutTooLong at bytes behind rest = (at ≡ behind) × IsTooLong behind rest
IsRefusedBehind kinds.BadLength at bytes behind rest = (at ≡ behind) × IsBadLength behind rest
IsRefusedBehind kinds.Truncated at bytes behind rest = (at ≡ length bytes) × IsPartial behind rest
IsRefusedBehind kind at bytes behind rest = ⊥

-- The fact for which bytes are refused: behind their whole records, none of which is ENDLIB, stands a header that is
-- refused, or they end.
abbrev pub IsFaultOf : List ℕ → LayoutFault → Type 0
IsFaultOf bytes (faults.Refused refusal) =
    (items : List Item) × (rest : List ℕ) × Cuts bytes items rest × (EndsLibrary items → ⊥)
    × IsRefusedBehind refusal.kind refusal.at bytes (end_of items) rest
IsFaultOf bytes faults.Memory = Unit {0}
