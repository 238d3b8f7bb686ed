use Rattle.std.proofs.Common.{refl, sym, ◌∙◌}
use Rattle.first_form.specs.Working.Values.{decimal_in}
use Rattle.first_form.specs.Working.Parts.{deck_of}
use Rattle.first_form.specs.Working.Views.{parts_of, choice_in, chosen_number}
use Rattle.first_form.proofs.Choices.{bound_takes}
use Rattle.first_form.proofs.FirstForms.{served_reads, option_map_some}
use Rattle.first_form.proofs.served.read.Goals as goal

pub units-requires-clause-few : goal.units-requires-clause-few
units-requires-clause-few c =
    (bound_takes (decimal_in c.in_ok-parts.parts.rule.bound.now) (sym c.is_bound.ensures ∙ c.if-not-is_bound.false)).few_whole

pub units-requires-clause-digits : goal.units-requires-clause-digits
units-requires-clause-digits c =
    (bound_takes (decimal_in c.in_ok-parts.parts.rule.bound.now) (sym c.is_bound.ensures ∙ c.if-not-is_bound.false)).whole

pub returns : goal.returns
returns c =
    let parts = c.in_ok-parts.parts in
    let o = option_map_some (chosen_number parts) (choice_in parts) c.in_ok-number.number c.in_ok-number.ensures in (
      deck_of (parts_of parts) o.0,
      served_reads c.args.deck_name.now c.args.statements.now (parts_of parts) o.0 c.in_ok-parts.ensures o.1 (sym c.is_bound.ensures ∙ c.if-not-is_bound.false) (sym c.files_fit.ensures ∙ c.if-not-files_fit.false),
      record { layout = refl; primary = refl; results = refl; check = refl; note = refl; number = sym o.2; bound = c.units.ensures },
    )
