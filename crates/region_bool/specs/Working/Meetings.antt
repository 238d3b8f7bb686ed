-- What two flips come to that stand first in their lists: one that stands before all else, and what is left of each.
use Rattle.std.specs.Prelude.{◌≡◌, Bool, false, ◌&&◌, ◌+◌, ◌≤◌, ℤ, ◌<ℤ◌, int_lt, if◌then◌else◌, List, [], ◌∷◌, ◌++◌, length, Option, None, Some}
use Rattle.list_facts.specs.EitherOr.{exactly_one}
use Rattle.region_form.specs.declared.flip.Flip.{Flip}
use Rattle.region_form.specs.Flips.{changes, StandsBefore, AreSorted}
use Rattle.region_bool.specs.declared.meeting.Meeting.{Meeting}

-- whether an odd number of the flips on such lines change column x
abbrev pub odd_where : (counts : ℤ → Bool) → List Flip → ℤ → Bool
odd_where counts [] x = false
odd_where counts (f ∷ fs) x = exactly_one (counts f.y && changes f x) (odd_where counts fs x)

-- the flip, where there is one
abbrev pub listed : Option Flip → List Flip
listed None = []
listed (Some f) = f ∷ []

-- a flip of the columns x0 to x1 - 1, where these are any
abbrev pub stretch : (y x0 x1 : ℤ) → Option Flip
stretch y x0 x1 = if int_lt x0 x1 then Some (record { y = y; x0 = x0; x1 = x1 }) else None

-- the columns between two ends, whichever is the lower
abbrev pub stretch_between : (y a b : ℤ) → Option Flip
stretch_between y a b = if int_lt a b then stretch y a b else stretch y b a

-- what is there changes a column, stands behind a flip, or before it
abbrev pub IsWide : Option Flip → Type 0
IsWide None = Unit {0}
IsWide (Some f) = f.x0 <ℤ f.x1

abbrev pub StandsBeforeIt : Flip → Option Flip → Type 0
StandsBeforeIt h None = Unit {0}
StandsBeforeIt h (Some f) = StandsBefore h f

abbrev pub BothStandSo : Option Flip → Option Flip → Type 0
BothStandSo None o = Unit {0}
BothStandSo (Some f) o = StandsBeforeIt f o

abbrev pub ItStandsBefore : Option Flip → Flip → Type 0
ItStandsBefore None h = Unit {0}
ItStandsBefore (Some f) h = StandsBefore f h

-- together they change what both flips change; they stand behind what stands before both, what is left of a flip stands
-- before what stands behind it, and what is passed before all of that; and of one flip at most something is left
pub record IsMeeting (f g : Flip) (met : Meeting) : Type 0 where
  pub same : (counts : ℤ → Bool) (x : ℤ)
      → exactly_one (odd_where counts (listed met.passed) x) (exactly_one (odd_where counts (listed met.first) x) (odd_where counts (listed met.second) x))
      ≡ exactly_one (counts f.y && changes f x) (counts g.y && changes g x)
  pub wide : IsWide met.passed × IsWide met.first × IsWide met.second
  pub behind : (h : Flip) → StandsBefore h f → StandsBefore h g
      → StandsBeforeIt h met.passed × StandsBeforeIt h met.first × StandsBeforeIt h met.second
  pub before_first : (h : Flip) → StandsBefore f h → ItStandsBefore met.passed h × ItStandsBefore met.first h
  pub before_second : (h : Flip) → StandsBefore g h → ItStandsBefore met.passed h × ItStandsBefore met.second h
  pub passed : BothStandSo met.passed met.first × BothStandSo met.passed met.second
  pub fewer : length (listed met.first) + length (listed met.second) ≤ 1

-- sorted flips that change what those of exactly one list change
pub record AreOfOne (first second flips : List Flip) : Type 0 where
  pub sorted : AreSorted flips
  pub odd : (counts : ℤ → Bool) (x : ℤ) → odd_where counts flips x ≡ exactly_one (odd_where counts first x) (odd_where counts second x)

-- what is passed of two lists, and what is left of each
pub record Passing : Type 0 where
  pub passed : List Flip
  pub first : List Flip
  pub second : List Flip

pub record IsPassing (first second : List Flip) (at : Passing) : Type 0 where
  pub first_sorted : AreSorted (at.passed ++ at.first)
  pub second_sorted : AreSorted (at.passed ++ at.second)
  pub odd : (counts : ℤ → Bool) (x : ℤ)
      → exactly_one (odd_where counts at.passed x) (exactly_one (odd_where counts at.first x) (odd_where counts at.second x))
      ≡ exactly_one (odd_where counts first x) (odd_where counts second x)
