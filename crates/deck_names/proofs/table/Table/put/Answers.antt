use Rattle.deck_names.proofs.Entered.{put_under}
use Rattle.deck_names.proofs.table.Table.put.Goals as goal

pub returns : goal.returns
returns c = put_under (λ k. k.now) c.args.name.now c.args.number c.args.self.now.firsts c.insert.new.self c.requires c.in_ok-insert.ensures.updates
