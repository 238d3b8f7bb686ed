use Rattle.std.proofs.Common.{◌≡◌, drop}
use Rattle.deck_lexer.specs.Tokens.{closes_on_line}
use Rattle.deck_lexer.proofs.front.closes_on_line.Given as goal

abbrev pub invariant-loop-byte : goal.invariant-loop-byte
invariant-loop-byte l = closes_on_line (drop l.byte-index l.bytes) ≡ closes_on_line l.bytes
