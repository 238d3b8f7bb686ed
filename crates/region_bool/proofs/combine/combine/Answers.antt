use Rattle.std.proofs.Common.{false, sym, ap, ◌∙◌}
use Rattle.region_form.specs.Flips.{squares}
use Rattle.region_sweep.specs.Counts.{times, times_up_to}
use Rattle.region_bool.specs.Working.Tables.{by_table, holds, inside_of, none_inside, odd_of, value_of}
use Rattle.region_bool.proofs.Parities.{odd_column, odd_squares, sorted_rise, sorted_wide}
use Rattle.region_bool.proofs.combine.combine.Goals as goal

pub sweep-requires-clause-first_rises : goal.sweep-requires-clause-first_rises
sweep-requires-clause-first_rises c = sorted_rise c.flips-first_flips.result.now c.flips-first_flips.ensures.form.sorted

pub sweep-requires-clause-second_rises : goal.sweep-requires-clause-second_rises
sweep-requires-clause-second_rises c = sorted_rise c.flips-second_flips.result.now c.flips-second_flips.ensures.form.sorted

pub sweep-requires-clause-first_wide : goal.sweep-requires-clause-first_wide
sweep-requires-clause-first_wide c = sorted_wide c.flips-first_flips.result.now c.flips-first_flips.ensures.form.sorted

pub sweep-requires-clause-second_wide : goal.sweep-requires-clause-second_wide
sweep-requires-clause-second_wide c = sorted_wide c.flips-second_flips.result.now c.flips-second_flips.ensures.form.sorted

pub sweep-requires-clause-closed : goal.sweep-requires-clause-closed
sweep-requires-clause-closed c =
    λ x.
    let p = sym (odd_column c.flips-first_flips.result.now x) ∙ c.flips-first_flips.ensures.form.closed x in
    let q = sym (odd_column c.flips-second_flips.result.now x) ∙ c.flips-second_flips.ensures.form.closed x in
    ap (λ b. inside_of c.args.operation (value_of b (odd_of (times c.flips-second_flips.result.now x)))) p
    ∙ (ap (λ b. inside_of c.args.operation (value_of false b)) q ∙ none_inside c.args.operation)

pub returns : goal.returns
returns c =
    λ x y.
    c.in_ok-region.ensures x y
    ∙ (by_table c.args.operation (odd_of (times_up_to c.flips-first_flips.result.now x y)) (odd_of (times_up_to c.flips-second_flips.result.now x y))
    ∙ (ap (λ p. holds c.args.operation p (odd_of (times_up_to c.flips-second_flips.result.now x y))) (sym (odd_squares c.flips-first_flips.result.now x y) ∙ ap (λ fs. squares fs x y) c.flips-first_flips.ensures.flips)
    ∙ ap (holds c.args.operation (squares c.args.first.now x y)) (sym (odd_squares c.flips-second_flips.result.now x y) ∙ ap (λ fs. squares fs x y) c.flips-second_flips.ensures.flips)))
