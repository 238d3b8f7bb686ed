-- References turned round.
use Rattle.std.specs.Prelude.{ℕ, ◌↔◌, ◌<◌, Bool, List, Option}
use Rattle.std.specs.Global.{Vec}
use Rattle.gds_reach.specs.References.{IsClosed, IsOn, Reaches, Refers}

-- structure i refers to j where one of the first n structures, j, referred to i
abbrev pub AreTurned : List (Vec (Option ℕ)) → (n : ℕ) → List (Vec (Option ℕ)) → Type 0
AreTurned links n turned = (i j : ℕ) → Refers turned i j ↔ ((j < n) × Refers links j i)

-- the flags tell which structures some drawn one of the first n reaches by references turned round, and are closed
pub record AreLive (turned : List (Vec (Option ℕ))) (drawn : List Bool) (n : ℕ) (flags : List Bool) : Type 0 where
  pub closed : IsClosed turned flags
  pub each : (i : ℕ) → IsOn flags i ↔ ((j : ℕ) × (j < n) × IsOn drawn j × Reaches turned j i)
