use Rattle.std.proofs.Common.{subst, ◌≡◌, ℕ, List}
use Rattle.deck_names.specs.Tables.{found}
use Rattle.deck_names.specs.Working.Tables.{entered}
use Rattle.deck_names.proofs.Defining.{defined_outside, repeats_outside}
use Rattle.deck_names.proofs.tables.Tables.define_outside.Goals as goal

pub returns-clause-tables : goal.returns-clause-tables
returns-clause-tables c = defined_outside c.args.self.now c.requires.tables c.args.name c.enter.new.self c.push.new.self c.in_ok-push.ensures.items (subst (λ n. (q : List ℕ) → found c.enter.new.self q ≡ entered (found c.args.self.now.outside) c.args.name.now n q) c.next_number-number.ensures c.in_ok-enter.ensures)

pub returns-clause-repeated : goal.returns-clause-repeated
returns-clause-repeated c = repeats_outside c.args.self.now c.requires.tables c.args.name _ c.has_either-repeated.ensures
