-- References between structures, and the paths that they make. A structure is its number, in the order of the stream.
use Rattle.std.specs.Prelude.{◌≡◌, ◌↔◌, ℕ, zero, suc, ◌<◌, Bool, true, List, [], ◌∷◌, length, Option, Some, slice_get}
use Rattle.std.specs.Global.{Vec}
use Rattle.gds_reach.specs.declared.reference.Reference.{Reference}

-- what the references in structure i name, in the order of the stream: each a structure, or none
abbrev pub named_in : List (Vec (Option ℕ)) → ℕ → List (Option ℕ)
named_in [] i = []
named_in (v ∷ vs) zero = v.items
named_in (v ∷ vs) (suc i) = named_in vs i

-- one of them is structure j
abbrev pub IsNamed : List (Option ℕ) → ℕ → Type 0
IsNamed named j = (place : ℕ) × (slice_get named place ≡ Some (Some j))

-- and that is one of the first n
abbrev pub IsNamedBelow : List (Option ℕ) → (n j : ℕ) → Type 0
IsNamedBelow named n j = (place : ℕ) × (place < n) × (slice_get named place ≡ Some (Some j))

-- structure i has a reference that names structure j
abbrev pub Refers : List (Vec (Option ℕ)) → (i j : ℕ) → Type 0
Refers links i j = IsNamed (named_in links i) j

-- a reference names one of the structures, or none
abbrev pub AreWithin : List (Vec (Option ℕ)) → Type 0
AreWithin links = (i j : ℕ) → Refers links i j → j < length links

-- ---- Paths

-- what a reference names, where there is such a reference
abbrev pub named_by : List (Vec (Option ℕ)) → Reference → Option (Option ℕ)
named_by links reference = slice_get (named_in links reference.structure) reference.place

-- a path from structure i to structure j: its first reference stands in i, each other in the structure that the one before
-- it names, and the last names j
abbrev pub IsPath : List (Vec (Option ℕ)) → ℕ → List Reference → ℕ → Type 0
IsPath links i [] j = i ≡ j
IsPath links i (reference ∷ path) j =
    (reference.structure ≡ i) × (k : ℕ) × (named_by links reference ≡ Some (Some k)) × IsPath links k path j

-- structure i reaches structure j
abbrev pub Reaches : List (Vec (Option ℕ)) → (i j : ℕ) → Type 0
Reaches links i j = (path : List Reference) × IsPath links i path j

-- ---- Flags of structures

abbrev pub IsOn : List Bool → ℕ → Type 0
IsOn flags i = slice_get flags i ≡ Some true

-- from what is flagged references lead to what is flagged
abbrev pub IsClosed : List (Vec (Option ℕ)) → List Bool → Type 0
IsClosed links flags = (i j : ℕ) → IsOn flags i → Refers links i j → IsOn flags j

-- a flag for each structure, whether this holds of it
pub record Tell (links : List (Vec (Option ℕ))) (holds : ℕ → Type 0) (flags : List Bool) : Type 0 where
  pub all : length flags ≡ length links
  pub each : (i : ℕ) → i < length links → IsOn flags i ↔ holds i
