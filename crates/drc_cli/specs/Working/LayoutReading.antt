-- Working words of the reader of a layout: what it has after a part of the stream, and what ends its reading.
use Rattle.std.specs.Prelude.{◌≡◌, ◌==◌, ℕ, pos, ◌+◌, ◌≤◌, ◌<◌, List, [], ◌∷◌, ◌++◌, length, map, filter, true, false, if◌then◌else◌, Bool, IsTrue, Result, Ok, Err, Option, Some, None}
use Rattle.std.specs.declared.alloc.AllocError.{AllocError}
use Rattle.drc_geom.specs.declared.point.Pt.{Pt}
use Rattle.drc_geom.specs.declared.rect.Rect.{Rect}
use Rattle.gds_records.specs.declared.fault.LayoutKind.TheVariants as kinds
use Rattle.gds_records.specs.Records.{Item, Cuts, end_of, EndsLibrary, IsPartial, longest_layout}
use Rattle.gds_records.specs.Stream.{Stream}
use Rattle.drc_ports.specs.Files.{Tally}
use Rattle.drc_ports.specs.Counts.{one_more}
use Rattle.drc_cli.specs.declared.layout.end.LayoutEnd.{LayoutEnd}
use Rattle.drc_cli.specs.declared.layout.end.LayoutEnd.TheVariants as ends
use Rattle.drc_cli.specs.declared.layout.slot.Slot.{Slot}
use Rattle.drc_cli.specs.declared.layout.slot.Slot.TheVariants.{Header, Points, End}
use Rattle.drc_cli.specs.declared.layout.reader.Stop.{Stop}
use Rattle.drc_cli.specs.declared.layout.reader.Stop.TheVariants.{Ended, Refused, ReadFault}
use Rattle.drc_cli.specs.declared.layout.reader.Step.{Step}
use Rattle.drc_cli.specs.declared.layout.reader.Step.TheVariants.{Taken, Wanting, Stopped}
use Rattle.drc_cli.specs.declared.layout.reader.Reader.{Reader}
use Rattle.drc_cli.specs.Layout.{Element, points_in, following, IsFront, IsNext}

-- what is read: the layer of this number in a layout whose primary has this name
pub record Sought : Type 0 where
  pub primary : List ℕ
  pub number : ℕ

abbrev pub sought : (primary : List ℕ) (number : ℕ) → Sought
sought primary number = record { primary = primary; number = number }

-- ---- The elements of records, and their rectangles

-- the element that is known at a record: one counts from its XY on
abbrev pub elements_at : Slot → Item → List Element
elements_at (Points number) item = record { number = number; points = points_in item.body } ∷ []
elements_at slot item = []

-- the slot behind the records
abbrev pub slot_after : Slot → List Item → Slot
slot_after slot [] = slot
slot_after slot (item ∷ items) = slot_after (following slot item) items

-- the elements of the records
abbrev pub elements_from : Slot → List Item → List Element
elements_from slot [] = []
elements_from slot (item ∷ items) = elements_at slot item ++ elements_from (following slot item) items

-- the elements of records from the start on
abbrev pub elements_of : List Item → List Element
elements_of items = elements_from Header items

-- the rectangle between the first and the third of an element's points
abbrev pub rect_of : List Pt → Rect
rect_of (a ∷ b ∷ c ∷ points) = record { x0 = a.x; y0 = a.y; x1 = c.x; y1 = c.y }
rect_of points = record { x0 = pos 0; y0 = pos 0; x1 = pos 0; y1 = pos 0 }

-- the rectangles of one layer, in the order of the stream
abbrev pub rects_on : (number : ℕ) → List Element → List Rect
rects_on number elements = map (λ element. rect_of element.points) (filter (λ element. element.number == number) elements)

-- ---- The reader

-- the bytes are cut into records that are a front, with these rectangles of the layer
pub record Tracks (of : Sought) (bytes : List ℕ) (items : List Item) (rest : List ℕ) (rects : List Rect) : Type 0 where
  pub cut : Cuts bytes items rest
  pub front : IsFront of.primary items
  pub rects_are : rects ≡ rects_on of.number (elements_of items)

-- what was fed is such records, as far as they were taken, and what is left
pub record IsAt (of : Sought) (fed : List ℕ) (items : List Item) (reader : Reader) : Type 0 where
  pub tracks : Tracks of fed items reader.framer.left reader.rects.items
  pub behind : reader.framer.at ≡ end_of items
  pub near : reader.framer.at ≤ longest_layout
  pub next : reader.slot ≡ slot_after Header items
  pub goes_on : reader.framer.ended ≡ false → EndsLibrary items → ⊥
  pub whole : reader.framer.ended ≡ true → slot_after Header items ≡ End

-- what ends the reading: ENDLIB, a fact for which the layout is refused, or a read that failed
abbrev pub IsStop : Stop → (primary : List ℕ) (items : List Item) (rest : List ℕ) → Type 0
IsStop Ended primary items rest = slot_after Header items ≡ End
IsStop (Refused refusal) primary items rest = (EndsLibrary items → ⊥) × IsNext refusal.kind primary items rest refusal.at
IsStop ReadFault primary items rest = Unit {0}

-- the reading of these bytes has ended so, with these rectangles
pub record HasStopped (of : Sought) (bytes : List ℕ) (rects : List Rect) (stop : Stop) : Type 0 where
  pub items : List Item
  pub rest : List ℕ
  pub tracks : Tracks of bytes items rest rects
  pub why : IsStop stop of.primary items rest

-- what ends the reading where no more bytes come: without ENDLIB the layout is truncated
abbrev pub end_of_reading : Stream → Stop
end_of_reading stream =
    if stream.ended then Ended else Refused (record { at = stream.at + length stream.left; kind = kinds.Truncated })

-- some records of what was fed are taken, and what is left holds no whole one
pub record IsWanting (of : Sought) (fed : List ℕ) (reader : Reader) : Type 0 where
  pub items : List Item
  pub state : IsAt of fed items reader
  pub awaits : reader.framer.ended ≡ false
  pub less : IsPartial reader.framer.at reader.framer.left

-- what one step does, whatever bytes come behind those that were fed
abbrev pub Steps : Sought → (fed : List ℕ) → Result Step AllocError → Reader → Type 0
Steps of fed (Ok Taken) reader = (items : List Item) × IsAt of fed items reader
Steps of fed (Ok Wanting) reader = IsWanting of fed reader
Steps of fed (Ok (Stopped stop)) reader = (more : List ℕ) → HasStopped of (fed ++ more) reader.rects.items stop
Steps of fed (Err _) reader = Unit {0}

-- what taking all whole records does
abbrev pub TakesAll : Sought → (fed : List ℕ) → Result (Option Stop) AllocError → Reader → Type 0
TakesAll of fed (Ok None) reader = IsWanting of fed reader
TakesAll of fed (Ok (Some stop)) reader = (more : List ℕ) → HasStopped of (fed ++ more) reader.rects.items stop
TakesAll of fed (Err _) reader = Unit {0}

-- ---- Pieces of a file

-- one more failed read
abbrev pub one_failed : Tally → Tally
one_failed old = record old { read_faults = one_more old.read_faults }

-- what is left of a file, before and behind a read, where its contents are known
pub record Left : Type 0 where
  pub tells : Bool
  pub before : List ℕ
  pub now : List ℕ

-- What reading a piece does: where more is wanted, bytes were fed and taken; else the reading of certain bytes has
-- ended, which are the whole file where its contents are known.
abbrev pub ReadsPiece : Sought → (fed : List ℕ) → Left → Result (Option Stop) AllocError → Reader → Type 0
ReadsPiece of fed left (Ok None) reader =
    (piece : List ℕ) × (0 < length piece) × IsWanting of (fed ++ piece) reader × (IsTrue left.tells → left.before ≡ piece ++ left.now)
ReadsPiece of fed left (Ok (Some stop)) reader =
    (bytes : List ℕ) × HasStopped of bytes reader.rects.items stop × (IsTrue left.tells → bytes ≡ fed ++ left.before)
ReadsPiece of fed left (Err _) reader = Unit {0}

-- what it does to the tally
abbrev pub piece_tally : Result (Option Stop) AllocError → Tally → Tally
piece_tally (Ok (Some ReadFault)) old = one_failed old
piece_tally result old = old

-- the whole reading, of a file of which so much was left: certain bytes were read, which are those where its contents
-- are known
abbrev pub ReadsAll : Sought → (tells : Bool) (before : List ℕ) → Result Stop AllocError → List Rect → Type 0
ReadsAll of tells before (Ok stop) rects = (bytes : List ℕ) × HasStopped of bytes rects stop × (IsTrue tells → bytes ≡ before)
ReadsAll of tells before (Err _) rects = Unit {0}

-- what it does to the tally: a failed read ends it
abbrev pub reading_tally : Result Stop AllocError → Tally → Tally
reading_tally (Ok ReadFault) old = one_failed old
reading_tally result old = old

-- the tally behind a reading: one more failed read where that is the answer, and else the same
abbrev pub CountsReads : {X : Type 0} → Result X LayoutEnd → Tally → Tally → Type 0
CountsReads (Err ends.ReadFault) old new = new ≡ one_failed old
CountsReads result old new = new ≡ old
