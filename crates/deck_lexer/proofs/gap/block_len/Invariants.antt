use Rattle.std.proofs.Common.{◌≡◌, ◌+◌, ◌-◌, drop}
use Rattle.std.specs.Option.{option_map}
use Rattle.deck_lexer.specs.Working.Reading.{block_len}
use Rattle.deck_lexer.proofs.gap.block_len.Given as goal

abbrev pub invariant-loop-last : goal.invariant-loop-last
invariant-loop-last l = option_map (λ n. n + (l.last - 1)) (block_len (drop (l.last - 1) l.bytes)) ≡ block_len l.bytes
