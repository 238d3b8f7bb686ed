use Rattle.std.proofs.Common.{subst}
use Rattle.first_form.specs.Working.Parts.{served_in}
use Rattle.first_form.specs.Working.Views.{Reads}
use Rattle.first_form.proofs.FirstForms.{is_found, is_none}
use Rattle.first_form.proofs.served.first_deck.Goals as goal

pub returns-clause-found : goal.returns-clause-found
returns-clause-found c =
    is_found c.args.deck_name.now c.args.deck.now c.read.result (subst (λ s. Reads c.read.result (served_in c.args.deck_name.now s)) c.as_slice.ensures c.read.ensures)

pub returns-clause-none : goal.returns-clause-none
returns-clause-none c =
    is_none c.args.deck_name.now c.args.deck.now c.read.result (subst (λ s. Reads c.read.result (served_in c.args.deck_name.now s)) c.as_slice.ensures c.read.ensures)
