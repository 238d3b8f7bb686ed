-- Small facts on tests and options that the laws share.
use Rattle.std.proofs.Common.{◌≡◌, ◌⊎◌, ℕ, Bool, true, false, cond, inl, inr, Option, None, Some, refl}
use Rattle.std.proofs.lemmas.Bool.{eq-eqb}
use lib.Dec.{eqb}

-- what a choice between an option and another gives
pub some_of_if : (b : Bool) (j i : ℕ) (o : Option ℕ) → cond b (Some j) o ≡ Some i → ((b ≡ true) × (j ≡ i)) ⊎ ((b ≡ false) × (o ≡ Some i))
some_of_if true j i o e = inl (refl, cc)
some_of_if false j i o e = inr (refl, e)

pub some_of_none_if : (b : Bool) (i : ℕ) (o : Option ℕ) → cond b None o ≡ Some i → (b ≡ false) × (o ≡ Some i)
some_of_none_if true i o e = absurd cc
some_of_none_if false i o e = (refl, e)

pub eqb_itself : (i : ℕ) → eqb i i ≡ true
eqb_itself i = eq-eqb i i refl
