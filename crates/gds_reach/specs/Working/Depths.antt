-- References in flagged structures.
use Rattle.std.specs.Prelude.{◌≡◌, ℕ, ◌<◌, Bool, List, Option, Some}
use Rattle.std.specs.Global.{Vec}
use Rattle.gds_reach.specs.declared.reference.Reference.{Reference}
use Rattle.gds_reach.specs.References.{named_by, Refers, IsOn}

-- the reference stands in a flagged structure
abbrev pub StandsIn : List (Vec (Option ℕ)) → List Bool → Reference → Type 0
StandsIn links flags reference = ((named : Option ℕ) × (named_by links reference ≡ Some named)) × IsOn flags reference.structure

-- a flagged structure refers to structure j
abbrev pub IsReferredTo : List (Vec (Option ℕ)) → List Bool → (j : ℕ) → Type 0
IsReferredTo links flags j = (i : ℕ) × IsOn flags i × Refers links i j

-- and that is one of the first n
abbrev pub IsReferredToBelow : List (Vec (Option ℕ)) → List Bool → (n j : ℕ) → Type 0
IsReferredToBelow links flags n j = (i : ℕ) × (i < n) × IsOn flags i × Refers links i j
