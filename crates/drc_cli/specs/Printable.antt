-- Printable bytes: those from the space to the tilde.
use Rattle.std.specs.Prelude.{ℕ, Bool, ◌&&◌, nat_le}

abbrev pub is_printable : ℕ → Bool
is_printable c = nat_le 32 c && nat_le c 126
