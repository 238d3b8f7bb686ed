use Rattle.deck_selection.proofs.NameSets.{one_more}
use Rattle.deck_selection.proofs.name_set.NameSet.add.Goals as goal

pub returns : goal.returns
returns c = one_more (λ k. k.now) c.args.name c.args.self.now.names c.insert.new.self c.in_ok-insert.field-0 c.in_ok-insert.ensures.added c.in_ok-insert.ensures.keys
