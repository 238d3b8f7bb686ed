-- What a call is passed, and gives back, in 64 bits.
use Rattle.std.proofs.Common.{◌≡◌, ℤ, w64, SFits, to_z, of_z}
use Rattle.std.proofs.lemmas.Int.{to_z-of_z}

pub passed : (z : ℤ) → SFits w64 z → to_z w64 (of_z w64 z) ≡ z
passed = to_z-of_z w64
