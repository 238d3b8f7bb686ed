use Rattle.std.proofs.Common.{◌-◌, length}
use Rattle.deck_refusal.proofs.Tokens.{Lexed}
use Rattle.deck_refusal.proofs.fact.first_fact.Given as goal

abbrev pub invariant-loop-token : goal.invariant-loop-token
invariant-loop-token l = Lexed l.text l.at

abbrev pub decreases-loop-token : goal.decreases-loop-token
decreases-loop-token l = length l.text - l.at
