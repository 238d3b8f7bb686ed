-- A walk over the entries of a stretch. It stands at a column: `value` is the old value from there on, `last` the new
-- value before it.
use Rattle.std.specs.Prelude.{Bool, ℤ, int_lt, if◌then◌else◌, List, [], ◌∷◌, ◌++◌}
use Rattle.row_state.specs.declared.entry.Entry.{Entry}
use Rattle.row_state.specs.declared.piece.Piece.{Piece}
use Rattle.row_state.specs.declared.walk.Walk.{Walk}

-- an entry where the value changes
abbrev pub entry_of : {V : Type 0} → (V → V → Bool) → (last : V) (column : ℤ) (value : V) → List (Entry V)
entry_of same last column value = if same last value then [] else record { column = column; value = value } ∷ []

-- the pieces from a column on, where the old value is this one
abbrev pub pieces_of : {V : Type 0} → (end at : ℤ) → (value : V) → List (Entry V) → List (Piece V)
pieces_of end at value [] = if int_lt at end then record { x0 = at; x1 = end; old = value } ∷ [] else []
pieces_of end at value (e ∷ es) =
    if int_lt at e.column
    then record { x0 = at; x1 = e.column; old = value } ∷ pieces_of end e.column e.value es
    else pieces_of end at e.value es

-- the new entries from where the walk stands
abbrev pub entries_of : {V : Type 0} → (V → V → Bool) → (V → V) → (end : ℤ) → Walk V → List (Entry V) → List (Entry V)
entries_of same makes end w [] =
    if int_lt w.at end
    then entry_of same w.last w.at (makes w.value) ++ entry_of same (makes w.value) end w.value
    else entry_of same w.last end w.value
entries_of same makes end w (e ∷ es) =
    if int_lt w.at e.column
    then entry_of same w.last w.at (makes w.value) ++ entries_of same makes end (record { at = e.column; value = e.value; last = makes w.value }) es
    else entries_of same makes end (record w { value = e.value }) es
