-- Steps each of which may fail, one after the other: each is given what the one before it found.
use Rattle.std.specs.Prelude.{Option, None, Some}

infixl 10 ◌>>=◌
abbrev pub ◌>>=◌ : {A B : Type 0} → Option A → (A → Option B) → Option B
None >>= next = None
(Some found) >>= next = next found
