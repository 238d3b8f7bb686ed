-- A place in chunks: the number of a chunk, and a place in that chunk.
--
--     [a b c] [d e f g] [h i]
--                ^                   chunk 1, place 1: before it stand a b c d, behind it e f g h i
use Rattle.std.specs.Prelude.{◌≡◌, ◌⊎◌, ℕ, ◌+◌, ◌<◌, zero, suc, Bool, true, false, List, [], ◌∷◌, ◌++◌, length, take, drop, slice_set}
use Rattle.std.specs.Global.{Vec}
use Rattle.chunked_list.specs.Chunks.{joined}

-- the items of the chunk of this number
abbrev pub items_of : {X : Type 0} → List (Vec X) → ℕ → List X
items_of [] k = []
items_of (c ∷ cs) zero = c.items
items_of (c ∷ cs) (suc k) = items_of cs k

-- the items of the chunks before it
abbrev pub lead : {X : Type 0} → List (Vec X) → ℕ → List X
lead [] k = []
lead (c ∷ cs) zero = []
lead (c ∷ cs) (suc k) = c.items ++ lead cs k

-- the items of the chunks behind it
abbrev pub trail : {X : Type 0} → List (Vec X) → ℕ → List X
trail [] k = []
trail (c ∷ cs) zero = joined cs
trail (c ∷ cs) (suc k) = trail cs k

abbrev pub before_place : {X : Type 0} → List (Vec X) → (chunk place : ℕ) → List X
before_place chunks k i = lead chunks k ++ take i (items_of chunks k)

abbrev pub behind_place : {X : Type 0} → List (Vec X) → (chunk place : ℕ) → List X
behind_place chunks k i = drop i (items_of chunks k) ++ trail chunks k

-- the list, where items are put in the place of so many from a place on
abbrev pub replaced : {X : Type 0} → List (Vec X) → (chunk place count : ℕ) → List X → List X
replaced chunks k i count with_items = before_place chunks k i ++ with_items ++ drop count (behind_place chunks k i)

-- a change of one chunk: items that come in the place of so many from a place on
pub record Change (X : Type 0) : Type 0 where
  pub chunk : ℕ
  pub place : ℕ
  pub count : ℕ
  pub with_items : List X

abbrev pub change : {X : Type 0} → (chunk place count : ℕ) → List X → Change X
change chunk place count with_items = record { chunk = chunk; place = place; count = count; with_items = with_items }

-- the chunks are others in that one, which was changed
pub record IsWrittenOver {X : Type 0} (old : List (Vec X)) (by : Change X) (new : List (Vec X)) : Type 0 where
  pub written : Vec X
  pub set : new ≡ slice_set old by.chunk written
  pub items : written.items ≡ take by.place (items_of old by.chunk) ++ by.with_items ++ drop (by.place + by.count) (items_of old by.chunk)

-- the first item passes
abbrev pub begins_passed : {X : Type 0} → (X → Bool) → List X → Bool
begins_passed test [] = false
begins_passed test (x ∷ xs) = test x

-- the first item that passes lies in this chunk, or behind its last and at the first of the next
pub record IsAround {X : Type 0} (test : X → Bool) (chunks : List (Vec X)) (chunk : ℕ) : Type 0 where
  pub within : chunk < length chunks
  pub lower : (chunk ≡ 0) ⊎ (begins_passed test (items_of chunks chunk) ≡ false)
  pub upper : (chunk + 1 ≡ length chunks) ⊎ (begins_passed test (items_of chunks (chunk + 1)) ≡ true)
