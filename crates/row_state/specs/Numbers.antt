-- Numbers are told apart by a test.
use Rattle.std.specs.Prelude.{◌≡◌, ℕ, nat_eq, true}
use Rattle.std.proofs.Common.{eq-eqb, refl}
use Rattle.std.proofs.lemmas.Bool.{eqb-true}

pub same_number_equal : (a b : ℕ) → nat_eq a b ≡ true → a ≡ b
same_number_equal = eqb-true

pub equal_number_same : (a : ℕ) → nat_eq a a ≡ true
equal_number_same a = eq-eqb a a refl
