-- Either-or.
use Rattle.std.specs.Prelude.{Bool, true, false, not}

-- one of two facts holds, and not both
abbrev pub exactly_one : Bool → Bool → Bool
exactly_one true q = not q
exactly_one false q = q
