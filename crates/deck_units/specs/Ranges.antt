-- What the places of a deck take: a value in their units, within their range. A value num / den in units of 1 / scale is n
-- where n * den = num * scale; it lies in the range where num * scale is from low * den to high * den.
--
--     a check bound at a precision of 1000: 0.2 is 200; 0.0005 is below 1; 0.0015 is in the range and no whole number
use Rattle.std.specs.Prelude.{◌≡◌, ◌⊎◌, true, false, ℕ, ◌*◌, ℤ, pos, negsuc, ◌*ℤ◌, ◌≤ℤ◌, Bool, Option, Some, None, Result, Ok, Err, IfSome}
use Rattle.drc_num.specs.Fractions.{Fraction}
use Rattle.deck_units.specs.declared.place.ValuePlace.{ValuePlace}
use Rattle.deck_units.specs.declared.place.ValuePlace.TheVariants as place
use Rattle.deck_units.specs.declared.range.Range.{Range}
use Rattle.deck_units.specs.declared.unit_fault.UnitFault.{UnitFault}
use Rattle.deck_units.specs.declared.unit_fault.UnitFault.TheVariants as fault

-- the number of units that a value is, where it is whole
abbrev pub IsUnits : Fraction → (scale : ℕ) → ℤ → Type 0
IsUnits q scale n = n *ℤ pos q.den ≡ q.num *ℤ pos scale

-- the value lies in the range
pub record IsInRange (q : Fraction) (range : Range) : Type 0 where
  pub low : (range.low *ℤ pos q.den) ≤ℤ (q.num *ℤ pos range.scale)
  pub high : IfSome range.high (λ high. (q.num *ℤ pos range.scale) ≤ℤ (high *ℤ pos q.den))

-- within the range, and no whole number of units
pub record IsBetween (q : Fraction) (range : Range) : Type 0 where
  pub within : IsInRange q range
  pub between : (n : ℤ) → ¬ IsUnits q range.scale n

-- What is said of a value: its units; that it is out of range; or that it is within the range and off grid. A count that
-- isn't whole is out of range.
abbrev pub IsMeasure : Fraction → Range → Result ℤ UnitFault → Type 0
IsMeasure q range (Ok n) = IsUnits q range.scale n × IsInRange q range
IsMeasure q range (Err fault.ValueRange) = (¬ IsInRange q range) ⊎ ((range.is_count ≡ true) × IsBetween q range)
IsMeasure q range (Err fault.OffGrid) = (range.is_count ≡ false) × IsBetween q range

-- the greatest length, in database units, that a check or an operation takes
abbrev pub most_length : ℤ
most_length = pos 16777216

abbrev pub range : (scale : ℕ) (low : ℤ) (high : Option ℤ) → Range
range scale low high = record { scale = scale; low = low; high = high; is_count = false }

abbrev pub count : (low high : ℤ) → Range
count low high = record { scale = 1; low = low; high = Some high; is_count = true }

-- The range of each place. Lengths are in database units, of which a micron has as many as the precision says, and areas in
-- their squares.
abbrev pub range_of : ValuePlace → (precision : ℕ) → Range
range_of place.LayerNumber precision = count (pos 0) (pos 65535)
range_of place.Precision precision = count (pos 1) (pos 1000000)
range_of place.MaximumResults precision = count (pos 0) (pos 1000000000)
range_of place.Abut precision = count (pos 90) (pos 90)
range_of place.Size precision = range precision (negsuc 16777215) (Some most_length)
range_of place.TurnedSize precision = range precision (pos 0) (Some most_length)
range_of place.Distance precision = range precision (pos 1) (Some most_length)
range_of place.Length precision = range precision (pos 0) None
range_of place.Area precision = range (precision * precision) (pos 0) None
