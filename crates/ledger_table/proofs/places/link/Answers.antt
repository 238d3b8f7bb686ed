use Rattle.std.proofs.Common.{◌<◌, ◌/◌, arith, sym, ◌∙◌}
use Rattle.ledger_table.proofs.Linking.{linked_some, linked_none}
use Rattle.ledger_table.proofs.places.link.Goals as goal

pub returns-in-Some : goal.returns-in-Some
returns-in-Some c =
    let low : c.in-Some.op < c.args.place / 2 = c.requires.wiring.lower (c.args.place / 2) _ c.in-Some.op (sym c.read_at.ensures ∙ c.in-Some.is) in
    linked_some _ _ _ _ _ c.requires.below c.requires.there (omega arith) (sym c.read_at.ensures ∙ c.in-Some.is)

pub returns-in_default : goal.returns-in_default
returns-in_default c = linked_none _ _ _ _ c.requires.below (sym c.read_at.ensures ∙ c.in_default.is)
