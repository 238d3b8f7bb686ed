-- How far a gap reaches at the front of some bytes.
use Rattle.std.specs.Prelude.{◌≡◌, ℕ, ◌≤◌, List, length, take, drop}
use Rattle.deck_lexer.specs.Tokens.{IsGap}
use Rattle.deck_lexer.specs.Working.Reading.{part_len}

-- the first so many bytes are a gap, and it goes no further
pub record Passes (bytes : List ℕ) (n : ℕ) : Type 0 where
  pub within : n ≤ length bytes
  pub is_gap : IsGap (take n bytes) (drop n bytes)
  pub goes_no_further : part_len (drop n bytes) ≡ 0
