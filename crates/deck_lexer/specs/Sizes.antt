-- How long a deck may be.
use Rattle.std.specs.Prelude.{ℕ}

-- the most bytes of a deck
abbrev pub longest_deck : ℕ
longest_deck = 4194304
