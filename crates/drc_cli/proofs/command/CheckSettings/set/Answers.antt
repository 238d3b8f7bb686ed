use Rattle.std.proofs.Common.{rules, ◌≡◌, true, false, None, IsTrue, sym, ap, subst, ◌∙◌}
use Rattle.std.specs.Prelude.{codes, Bool}
use Rattle.drc_cli.specs.Command.{Setting, value_in}
use Rattle.drc_cli.proofs.Settings.{served_more, served_at, date_more, date_free, copied_none, copied_some}
use Rattle.drc_cli.proofs.command.CheckSettings.set.Goals as goal

pub returns-in-text : goal.returns-in-text
returns-in-text c = λ settings has.
    let setting : Setting = record { option = c.args.option.now; value = c.args.value.now } in
    let named : setting.option ≡ codes "--date" = c.in-text.is in
    let none : value_in settings (codes "--date") ≡ None = sym has.date ∙ copied_none c.args.self.now.date c.is_none.result c.is_none.ensures c.if-is_none.true in
    record {
      served = served_more settings setting has.served (named, rw (← c.as_bytes.ensures.value) (c.is_date.ensures.0 c.if-is_date.true)) (ap (λ o. value_in settings o) named ∙ none);
      date = date_more settings setting named none;
    }

pub returns-in_default : goal.returns-in_default
returns-in_default c = λ settings has more served.
    let at = served_at settings more (record { option = c.args.option.now; value = c.args.value.now }) served in
    let is : IsTrue c.is_date.result = c.is_date.ensures.1 (rw c.as_bytes.ensures.value at.0.1) in
    let never : false ≡ true = subst (λ (b : Bool). IsTrue b) c.if-is_date.false is in cc

pub returns-in_default-2 : goal.returns-in_default-2
returns-in_default-2 c = λ settings has more served.
    let none = date_free settings more (record { option = c.args.option.now; value = c.args.value.now }) served in
    copied_some c.args.self.now.date c.is_none.result c.is_none.ensures c.if-is_none.false (has.date ∙ none)

pub returns-in_default-3 : goal.returns-in_default-3
returns-in_default-3 c = λ settings has more served.
    let at = served_at settings more (record { option = c.args.option.now; value = c.args.value.now }) served in
    let named : c.args.option.now ≡ codes "--date" = at.0.0 in
    search rules
