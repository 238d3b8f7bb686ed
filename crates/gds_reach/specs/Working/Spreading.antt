-- How flags spread along references.
use Rattle.std.specs.Prelude.{◌≡◌, ◌⊎◌, ℕ, ◌+◌, ◌*◌, Bool, List, length, Option}
use Rattle.std.specs.Global.{Vec}
use Rattle.gds_reach.specs.References.{Refers, Reaches, IsOn}
use Rattle.gds_reach.specs.Working.Marks.{off, Waits}

-- from what is flagged references lead to what is flagged, but from what waits, which is flagged too
pub record AreMet (links : List (Vec (Option ℕ))) (flags : List Bool) (waiting : List ℕ) : Type 0 where
  pub on : (i : ℕ) → Waits waiting i → IsOn flags i
  pub met : (i j : ℕ) → IsOn flags i → Refers links i j → IsOn flags j ⊎ Waits waiting i

-- flags that have spread
pub record IsSpread (links : List (Vec (Option ℕ))) (old new : List Bool) (waiting : List ℕ) : Type 0 where
  pub all : length new ≡ length old
  pub kept : (i : ℕ) → IsOn old i → IsOn new i
  pub sound : (j : ℕ) → IsOn new j → (i : ℕ) × IsOn old i × Reaches links i j
  pub met : AreMet links new waiting

-- how much is left to do at most
abbrev pub work : List Bool → List ℕ → ℕ
work flags waiting = 2 * off flags + length waiting
