use Rattle.std.proofs.Common.{[], ◌∷◌}
use Rattle.std.proofs.lemmas.List.{reverse-append}
use Rattle.ledger_record.proofs.laws.a_record_grows_at_its_end.Goals as goal

pub returns-clause-one : goal.returns-clause-one
returns-clause-one c events e = reverse-append events (e ∷ [])

pub returns-clause-more : goal.returns-clause-more
returns-clause-more c events later = reverse-append events later
