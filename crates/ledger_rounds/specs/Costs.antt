-- What an operation of the program's runs costs.
use Rattle.std.specs.Prelude.{ℕ, ◌+◌, ◌%◌}

abbrev pub cost_of : ℕ → ℕ
cost_of op = op % 7 + 1
