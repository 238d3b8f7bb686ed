use Rattle.std.proofs.Common.{sym, ap, subst, ◌∙◌, ◌≡◌, slice_get, Some}
use Rattle.deck_names.specs.Definitions.{stands_for}
use Rattle.deck_names.specs.Tables.{found}
use Rattle.deck_names.specs.Working.Tables.{least_of}
use Rattle.deck_names.proofs.Defining.{found_inside}
use Rattle.deck_names.proofs.tables.Tables.find.Goals as goal

pub returns-in-Check : goal.returns-in-Check
returns-in-Check c =
    c.least_of.ensures
    ∙ (ap (λ r. least_of r c.find.result) c.find-outside.ensures
    ∙ (ap (λ r. least_of (found c.args.self.now.outside c.args.name.now) r) c.find.ensures
    ∙ (found_inside c.args.self.now c.requires.tables c.in-Check.check c.table_of.result.now c.args.name.now (subst (λ ts. slice_get ts c.in-Check.check ≡ Some c.table_of.result.now) c.deref.ensures.value c.table_of.ensures)
    ∙ ap (λ f. stands_for c.args.self.now.definitions.items f c.args.name.now) (sym c.in-Check.is))))
