use Rattle.std.proofs.Common.{subst, ◌≡◌, ℕ, List, slice_get, Some}
use Rattle.deck_names.specs.Tables.{found}
use Rattle.deck_names.specs.Working.Tables.{entered, IsEntered}
use Rattle.deck_names.proofs.Defining.{defined_inside, repeats_inside}
use Rattle.deck_names.proofs.tables.Tables.define_inside.Goals as goal

pub returns-clause-tables : goal.returns-clause-tables
returns-clause-tables c = defined_inside c.args.self.now c.requires.tables c.args.name c.args.check c.enter.new.self c.enter_in.new.checks c.push.new.self c.requires.opened c.in_ok-push.ensures.items (subst (λ n. (q : List ℕ) → found c.enter.new.self q ≡ entered (found c.args.self.now.inside) c.args.name.now n q) c.next_number-number.ensures c.in_ok-enter.ensures) (subst (λ n. IsEntered c.args.self.now.checks.items c.args.check c.args.name.now n c.enter_in.new.checks.items) c.next_number-number.ensures c.in_ok-enter_in.ensures)

pub returns-clause-repeated : goal.returns-clause-repeated
returns-clause-repeated c =
    repeats_inside c.args.self.now c.requires.tables c.args.name c.args.check c.table_of.result.now _ (subst (λ ts. slice_get ts c.args.check ≡ Some c.table_of.result.now) c.deref.ensures.value c.table_of.ensures) c.has_either-repeated.ensures
