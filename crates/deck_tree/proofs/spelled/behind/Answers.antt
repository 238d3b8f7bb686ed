use Rattle.std.proofs.Common.{◌≡◌, ◌-◌, get_or, arith, sym, ◌∙◌}
use Rattle.deck_tree.proofs.Digits.{later_bound, step_bound, spell_step}
use Rattle.deck_tree.proofs.spelled.behind.Goals as goal

pub overflow_mul-number : goal.overflow_mul-number
overflow_mul-number c =
    let h = later_bound c.loop-digit.number c.args.number c.loop-digit.digit-index (let t = c.loop-digit-test.true in let f = c.requires.few in omega arith) c.requires.number c.loop-digit.invariant.bound in omega arith

pub overflow_add-number : goal.overflow_add-number
overflow_add-number c =
    let h = later_bound c.loop-digit.number c.args.number c.loop-digit.digit-index (let t = c.loop-digit-test.true in let f = c.requires.few in omega arith) c.requires.number c.loop-digit.invariant.bound in omega arith

pub loop-digit-preserved : goal.loop-digit-preserved
loop-digit-preserved c =
    let d : c.from.result ≡ get_or c.args.digits.now c.loop-digit.digit-index 0 - 48 = c.from.ensures ∙ c.saturating_sub.ensures in
    record {
      value = rw d (sym (spell_step c.loop-digit.number c.args.digits.now c.loop-digit.digit-index c.loop-digit-test.true) ∙ c.loop-digit.invariant.value);
      bound = step_bound c.loop-digit.number c.args.number c.loop-digit.digit-index c.from.result c.loop-digit.invariant.bound (omega (arith, c.type_inv.digits c.loop-digit.digit-index, d));
    }
