use Rattle.std.proofs.Common.{refl}
use Rattle.ledger_table.proofs.table.Table.may_charge.Goals as goal

pub returns-then-may_be_charged : goal.returns-then-may_be_charged
returns-then-may_be_charged c =
    let m = c.may_be_charged.ensures.0 c.if-may_be_charged.true in (
      λ t. record { cost = λ _. c.args.cost; enabled = record { runs = m.runs; holds = m.holds; uncharged = m.uncharged; cost = refl; fits = c.admits.ensures.0 t } },
      λ a. c.admits.ensures.1 (a.enabled).fits,
    )
