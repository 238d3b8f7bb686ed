-- The whole numbers from one up to another, which is no more one of them.
--
--      lo          hi
--   ---[===========)----      lo, lo + 1, .., hi - 1
use Rattle.std.specs.Prelude.{Bool, ◌&&◌, ℤ, int_le, int_lt}

-- x lies from lo up to but not including hi
abbrev pub between : (lo hi x : ℤ) → Bool
between lo hi x = int_le lo x && int_lt x hi
