-- For which fact of its records a stream is refused: a type that no stream has there, data that aren't what the type asks
-- for, UNITS that don't agree with the precision. What is behind the first fact isn't looked at.
use Rattle.std.specs.Prelude.{◌≡◌, ℕ, List, [], ◌∷◌, ◌++◌, take}
use Rattle.gds_records.specs.declared.record_type.RecordType.TheVariants as types
use Rattle.gds_records.specs.declared.real.Real8.{Real8}
use Rattle.gds_records.specs.declared.fault.LayoutKind.{LayoutKind}
use Rattle.gds_records.specs.declared.fault.LayoutKind.TheVariants as kinds
use Rattle.gds_records.specs.declared.fault.LayoutRefusal.{LayoutRefusal}
use Rattle.gds_records.specs.RecordTypes.{code_of}
use Rattle.gds_records.specs.Records.{Item}
use Rattle.gds_records.specs.Reals.{IsNearInverse}
use Rattle.gds_grammar.specs.Grammar.{IsFront}
use Rattle.gds_grammar.specs.Slots.{StandsBehind}
use Rattle.gds_values.specs.Rules.{HasGoodData}
use Rattle.gds_facts.specs.declared.checker.Checker.{Checker}
use Rattle.gds_facts.specs.Opened.{types_of, last_opened}

-- with this record the types are those of a front of a stream
abbrev pub IsAllowed : List Item → Item → Type 0
IsAllowed items item = IsFront (types_of (items ++ item ∷ []))

-- its data are as its type asks for in the element that was opened last
abbrev pub IsGood : List Item → Item → Type 0
IsGood items item = HasGoodData (last_opened items) item

-- where it is UNITS, the size of a database unit in user units, its first real, agrees with the precision
abbrev pub Agrees : (precision : ℕ) → Item → Type 0
Agrees precision item = item.kind ≡ code_of types.Units → (r : Real8) → r.bytes ≡ take 8 item.body → IsNearInverse r precision

-- behind these records the next one is refused so
abbrev pub IsFact : (precision : ℕ) → List Item → Item → LayoutKind → Type 0
IsFact precision items item kinds.UnexpectedRecord = IsAllowed items item → ⊥
IsFact precision items item kinds.BadData = IsAllowed items item × (IsGood items item → ⊥)
IsFact precision items item kinds.UnitsMismatch = IsAllowed items item × IsGood items item × (Agrees precision item → ⊥)
IsFact precision items item kind = ⊥

-- these records are the front of a stream, and none of them is refused
pub record AreFine (precision : ℕ) (items : List Item) : Type 0 where
  pub front : IsFront (types_of items)
  pub each : (before : List Item) (item : Item) (after : List Item) → items ≡ before ++ item ∷ after → IsGood before item × Agrees precision item

-- a list of records is refused so: for the first of them that has a fact
pub record IsRefused (precision : ℕ) (items : List Item) (refusal : LayoutRefusal) : Type 0 where
  pub before : List Item
  pub item : Item
  pub after : List Item
  pub parts : items ≡ before ++ item ∷ after
  pub fine : AreFine precision before
  pub offset : refusal.at ≡ item.at
  pub fact : IsFact precision before item refusal.kind

-- the checker has taken these records
pub record HasTaken (items : List Item) (checker : Checker) : Type 0 where
  pub fine : AreFine checker.precision items
  pub slot : StandsBehind (types_of items) checker.slot
  pub line : checker.line ≡ last_opened items
