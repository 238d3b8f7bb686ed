use Rattle.std.proofs.Common.{List, [], ◌∷◌, ◌++◌, length, string_bytes, subst}
use Rattle.drc_cli.specs.Command.{Setting, AreServed}
use Rattle.drc_cli.proofs.Settings.{read_one_more, must_have, not_half, some_left}
use Rattle.drc_cli.proofs.command.settings_of.Goals as goal

pub returns-then-not-set-clause-refused : goal.returns-then-not-set-clause-refused
returns-then-not-set-clause-refused c = λ settings words served.
    let before = c.pairs.invariant in
    let setting : Setting = record { option = c.as_str.result.now; value = c.as_str-in-pairs.result.now } in
    let has = must_have string_bytes _ before.0 setting c.pairs.rest.now c.index-rest-0.result c.index-rest-1.result c.pairs-test.true c.index-rest-0.is c.index-rest-1.is
    c.as_str.ensures.value c.as_str-in-pairs.ensures.value before.2 settings words in
    c.if-not-set.ensures before.0 before.1 has.0 (subst (λ (s : List Setting). AreServed s) has.1 served)

pub pairs-preserved : goal.pairs-preserved
pairs-preserved c =
    let before = c.pairs.invariant in
    let setting : Setting = record { option = c.as_str.result.now; value = c.as_str-in-pairs.result.now } in (
      before.0 ++ setting ∷ [],
      c.if-not-set.ensures before.0 before.1,
      read_one_more string_bytes _ before.0 setting c.pairs.rest.now c.index-rest-0.result c.index-rest-1.result c.pairs-test.true c.index-rest-0.is c.index-rest-1.is
          c.as_str.ensures.value c.as_str-in-pairs.ensures.value before.2,
    )

pub returns-else-is_empty-clause-refused : goal.returns-else-is_empty-clause-refused
returns-else-is_empty-clause-refused c = λ settings words served.
    let before = c.pairs.invariant in
    not_half string_bytes _ before.0 settings c.pairs.rest.now before.2 words c.pairs-test.false (some_left (length c.pairs.rest.now) c.is_empty.result c.is_empty.ensures c.if-is_empty.false)
