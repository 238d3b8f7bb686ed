use Rattle.std.proofs.Common.{subst}
use Rattle.deck_order.specs.Working.Walks.{IsLast}
use Rattle.deck_order.proofs.look.pass.Goals as goal

pub go_past-requires-clause-room : goal.go_past-requires-clause-room
go_past-requires-clause-room c = λ f last. c.requires.room f (subst (λ p. IsLast p f) c.deref_mut.ensures.value last)
