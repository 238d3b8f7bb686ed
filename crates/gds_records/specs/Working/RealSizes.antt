-- Sizes of reals beside a unit: 2^30 units are the value 1.
use Rattle.std.specs.Prelude.{ℕ, ◌*◌, ◌≤◌}

-- between 2^30 - 1 and 2^30 + 1 units
pub record IsNearOne (size unit : ℕ) : Type 0 where
  pub low : 1073741823 * unit ≤ size
  pub high : size ≤ 1073741825 * unit
