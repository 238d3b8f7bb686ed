-- Facts of references for which a layout is refused, and the first reference that has one.
use Rattle.std.specs.Prelude.{◌≡◌, ◌⊎◌, ℕ, ◌<◌, List, length, Option, None, Some}
use Rattle.std.specs.Global.{Vec}
use Rattle.gds_reach.specs.declared.reference.Reference.{Reference}
use Rattle.gds_reach.specs.References.{named_by, IsPath, Reaches}

-- it stands in a structure that the primary reaches, and names none
abbrev pub IsMissing : List (Vec (Option ℕ)) → (primary : ℕ) → Reference → Type 0
IsMissing links primary reference =
    Reaches links primary reference.structure × (named_by links reference ≡ Some None)

-- it stands in a structure that the primary reaches, and names one that reaches the one in which it stands
abbrev pub IsRecursive : List (Vec (Option ℕ)) → (primary : ℕ) → Reference → Type 0
IsRecursive links primary reference =
    Reaches links primary reference.structure
    × (named : ℕ) × (named_by links reference ≡ Some (Some named)) × Reaches links named reference.structure

-- a path of so many references leads from structure i to structure j
abbrev pub ReachesBy : List (Vec (Option ℕ)) → (count i j : ℕ) → Type 0
ReachesBy links count i j = (path : List Reference) × (length path ≡ count) × IsPath links i path j

-- it is the 65th on some path from the primary: the one behind a path of 64
abbrev pub IsTooDeep : List (Vec (Option ℕ)) → (primary : ℕ) → Reference → Type 0
IsTooDeep links primary reference =
    ((named : Option ℕ) × (named_by links reference ≡ Some named)) × ReachesBy links 64 primary reference.structure

-- ---- The first in the order of the stream

abbrev pub StandsBefore : Reference → Reference → Type 0
StandsBefore a b = (a.structure < b.structure) ⊎ ((a.structure ≡ b.structure) × (a.place < b.place))

-- this holds of the reference, and of none that stands before it; or there is none of which it holds
abbrev pub Finds : (holds : Reference → Type 0) → Option Reference → Type 0
Finds holds None = (reference : Reference) → holds reference → ⊥
Finds holds (Some first) = holds first × ((reference : Reference) → StandsBefore reference first → holds reference → ⊥)

-- this place is the first at which this holds; or there is none
abbrev pub IsFirstPlace : (holds : ℕ → Type 0) → Option ℕ → Type 0
IsFirstPlace holds None = (place : ℕ) → holds place → ⊥
IsFirstPlace holds (Some first) = holds first × ((place : ℕ) → place < first → holds place → ⊥)
