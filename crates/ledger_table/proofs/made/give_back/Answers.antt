use Rattle.std.proofs.Common.{◌+◌, ◌∷◌, subst, sym, ◌∙◌}
use Rattle.layer_model.specs.Wirings.{one_if_at}
use Rattle.ledger_history.specs.declared.event.Event.TheVariants.{Release}
use Rattle.ledger_history.specs.Histories.{returns}
use Rattle.ledger_table.specs.Marks.{MarksWith, wired}
use Rattle.ledger_table.proofs.made.give_back.Goals as goal

pub returns-in-Some-clause-marks : goal.returns-in-Some-clause-marks
returns-in-Some-clause-marks c = λ h w m.
    subst (λ o. MarksWith c.args.wires.now (Release w c.args.op c.args.place ∷ h) (λ j. one_if_at o j + returns (wired c.args.wires.now) h j) c.mark_returned.new.marks)
    (sym c.in-Some.is ∙ c.input.ensures) (c.mark_returned.ensures _ _ _ m)
