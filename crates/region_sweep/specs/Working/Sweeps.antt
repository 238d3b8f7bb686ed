-- The steps of a sweep: a change made so many times, and the columns that pieces turn.
use Rattle.std.specs.Prelude.{◌≡◌, Bool, false, ℕ, zero, suc, ℤ, int_le, if◌then◌else◌, List, [], ◌∷◌, ◌++◌}
use Rattle.std.specs.List.{AllByRecursion}
use Rattle.list_facts.specs.EitherOr.{exactly_one}
use Rattle.row_state.specs.declared.entry.Entry.{Entry}
use Rattle.row_state.specs.declared.piece.Piece.{Piece}
use Rattle.row_state.specs.Entries.{value_from}
use Rattle.region_form.specs.declared.flip.Flip.{Flip}
use Rattle.region_form.specs.Flips.{squares, is_odd, AreSorted, AreBelow}
use Rattle.region_sweep.specs.Counts.{times, times_up_to}

-- a change made n times
abbrev pub repeated : {V : Type 0} → (V → V) → ℕ → V → V
repeated makes zero v = v
repeated makes (suc n) v = repeated makes n (makes v)

-- whether an odd number of ends are at or before column x, of the pieces whose columns come in or go out
abbrev pub turned : {V : Type 0} → (inside : V → Bool) → (makes : V → V) → List (Piece V) → ℤ → Bool
turned inside makes [] x = false
turned inside makes (p ∷ ps) x =
    if exactly_one (inside p.old) (inside (makes p.old))
    then exactly_one (exactly_one (int_le p.x0 x) (int_le p.x1 x)) (turned inside makes ps x)
    else turned inside makes ps x

-- a sweep: the values that counts of changes make, which of them count as inside, and both lists of flips
pub record Sweep (V : Type 0) : Type 0 where
  pub inside : V → Bool
  pub counted : ℕ → ℕ → V
  pub none : V
  pub first : List Flip
  pub second : List Flip

abbrev pub sweep : {V : Type 0} → (V → Bool) → (ℕ → ℕ → V) → V → List Flip → List Flip → Sweep V
sweep inside counted none first second = record { inside = inside; counted = counted; none = none; first = first; second = second }

-- how far a sweep has come: its row, the flips that went out, and those of both lists that are left
pub record Reached (V : Type 0) : Type 0 where
  pub row : List (Entry V)
  pub out : List Flip
  pub left_first : List Flip
  pub left_second : List Flip

abbrev pub reached : {V : Type 0} → List (Entry V) → (out left_first left_second : List Flip) → Reached V
reached row out left_first left_second = record { row = row; out = out; left_first = left_first; left_second = left_second }

-- the flips of both lists that a sweep has passed are those below all that are left; the row has the values that they
-- make, and the flips that went out have the squares whose values count as inside
pub record IsSwept {V : Type 0} (s : Sweep V) (r : Reached V) : Type 0 where
  pub past_first : List Flip
  pub past_second : List Flip
  pub is_first : past_first ++ r.left_first ≡ s.first
  pub is_second : past_second ++ r.left_second ≡ s.second
  pub values : (x : ℤ) → value_from s.none r.row x ≡ s.counted (times past_first x) (times past_second x)
  pub has_squares : (x y : ℤ) → squares r.out x y ≡ s.inside (s.counted (times_up_to past_first x y) (times_up_to past_second x y))
  pub odd : (x : ℤ) → is_odd r.out x ≡ s.inside (s.counted (times past_first x) (times past_second x))
  pub sorted : AreSorted r.out
  pub below_first : AllByRecursion (λ g. AreBelow g.y r.out × AreBelow g.y past_first × AreBelow g.y past_second) r.left_first
  pub below_second : AllByRecursion (λ g. AreBelow g.y r.out × AreBelow g.y past_first × AreBelow g.y past_second) r.left_second
