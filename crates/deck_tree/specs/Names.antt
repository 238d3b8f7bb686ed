-- What is known of the names of variables.
use Rattle.std.specs.Prelude.{ℕ, List, Option}
use Rattle.drc_num.specs.Fractions.{Fraction}

-- what is known of a name: nothing; that it is there and comes to nothing; or the fraction to which it comes
abbrev pub Names : Type 0
Names = List ℕ → Option (Option Fraction)
