use Rattle.std.proofs.Common.{◌+◌, take, drop, sym, subst, ◌∙◌, refl, Contains, arith}
use Rattle.std.proofs.lemmas.List.{take_all}
use Rattle.std.proofs.lemmas.Option.{same_Some}
use Rattle.deck_grammar.specs.Refusals.{singles, StandOnce}
use Rattle.deck_grammar.proofs.OnceFacts.{take_next, whole_is, stand_once_more, none_once, never}
use Rattle.deck_grammar.proofs.singles.repeated.Goals as goal
use Rattle.deck_grammar.proofs.singles.repeated.Goals.{in-Some+else-has, in_default}

pub loop-i-init : goal.loop-i-init
loop-i-init c = none_once

pub loop-i-preserved : goal.loop-i-preserved
loop-i-preserved c =
    let x = c.index-all-i.result in
    subst StandOnce (sym (take_next c.args.all.now c.loop-i.i x c.loop-i-test.true c.index-all-i.is))
    (stand_once_more (take c.loop-i.i c.args.all.now) x c.loop-i.invariant
    (elim c.match-single_of.branch [
      | in-Some+else-has w ↦ λ which e h. never (w.if-has.ensures.1
          (subst (λ it. Contains (singles (take c.loop-i.i c.args.all.now)) it) (same_Some which w.in-Some.which (sym e ∙ sym w.in-Some.ensures)) h))
      | in_default w ↦ λ which e h. cc (w.in_default.is, w.in_default.ensures, e)
    ]))

pub returns-then-has-clause-found : goal.returns-then-has-clause-found
returns-then-has-clause-found c = record {
  before = take c.loop-i.i c.args.all.now;
  repeat = c.index-all-i.result;
  behind = drop (c.loop-i.i + 1) c.args.all.now;
  stands = whole_is c.args.all.now c.loop-i.i c.index-all-i.result c.loop-i-test.true c.index-all-i.is;
  is_single = sym c.in-Some.ensures;
  came = c.if-has.ensures.0 refl;
  first = c.loop-i.invariant;
  place_is = c.place_of.ensures;
}

pub returns-clause-none : goal.returns-clause-none
returns-clause-none c = subst StandOnce (take_all c.loop-i.i c.args.all.now (omega arith)) c.loop-i.invariant
