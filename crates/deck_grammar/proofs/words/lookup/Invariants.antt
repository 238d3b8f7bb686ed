use Rattle.std.proofs.Common.{◌≡◌, length, map}
use Rattle.deck_grammar.specs.Words.{lookup}
use Rattle.deck_grammar.proofs.words.lookup.Given as goal

abbrev pub invariant-loop-rows : goal.invariant-loop-rows
invariant-loop-rows l = lookup l.otherwise (map (λ k. (k.0.now, k.1)) l.rows) l.word ≡ lookup l.otherwise (map (λ k. (k.0.now, k.1)) l.initial.rows) l.word

abbrev pub decreases-loop-rows : goal.decreases-loop-rows
decreases-loop-rows l = length l.rows
