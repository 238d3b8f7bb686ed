-- Which structures lead to something drawn.
use Rattle.std.specs.Prelude.{ℕ, Bool, List, Option}
use Rattle.std.specs.Global.{Vec}
use Rattle.gds_reach.specs.References.{IsOn, Reaches}

-- structure i is drawn, or reaches one that is
abbrev pub IsLive : List (Vec (Option ℕ)) → (drawn : List Bool) → (i : ℕ) → Type 0
IsLive links drawn i = (j : ℕ) × IsOn drawn j × Reaches links i j
