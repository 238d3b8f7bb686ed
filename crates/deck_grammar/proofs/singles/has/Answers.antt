use Rattle.std.proofs.Common.{sym, subst, refl, Contains, arith}
use Rattle.deck_tree.specs.declared.statement.Statement.{Statement}
use Rattle.deck_grammar.specs.Refusals.{singles}
use Rattle.std.proofs.Common.{List, take, drop, ◌+◌}
use Rattle.std.proofs.lemmas.List.{take_all}
use Rattle.deck_grammar.proofs.OnceFacts.{take_next, whole_is, found_single, no_single_more, never}
use Rattle.deck_grammar.proofs.singles.has.Goals as goal

pub loop-statement-preserved : goal.loop-statement-preserved
loop-statement-preserved c =
    let P : List Statement → Type 0 = λ those. Contains (singles those) c.args.which in
    λ h. no_single_more (take c.loop-statement.statement-index c.args.all.now) c.statement-item.result c.args.which c.loop-statement.invariant
    (λ e. never (c.if-is_single.ensures.1 e))
    (subst P (take_next c.args.all.now c.loop-statement.statement-index c.statement-item.result c.loop-statement-test.true c.statement-item.is) h)

pub returns-then-is_single : goal.returns-then-is_single
returns-then-is_single c =
    let P : List Statement → Type 0 = λ those. Contains (singles those) c.args.which in (
      λ t. subst P (sym (whole_is c.args.all.now c.loop-statement.statement-index c.statement-item.result c.loop-statement-test.true c.statement-item.is))
          (found_single (take c.loop-statement.statement-index c.args.all.now) c.statement-item.result (drop (c.loop-statement.statement-index + 1) c.args.all.now) c.args.which (c.if-is_single.ensures.0 refl)),
      λ h. refl,
    )

pub returns : goal.returns
returns c =
    let P : List Statement → Type 0 = λ those. Contains (singles those) c.args.which in
    (λ t. absurd (never t), λ h. absurd (c.loop-statement.invariant (subst P (sym (take_all c.loop-statement.statement-index c.args.all.now (omega arith))) h)))
