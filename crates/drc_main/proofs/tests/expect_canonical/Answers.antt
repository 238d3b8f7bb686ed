use Rattle.drc_main.proofs.tests.expect_canonical.Goals as goal

pub run_plain-answer-requires : goal.run_plain-answer-requires
run_plain-answer-requires g c = record { plain = c.is_plain.ensures.0 c.if-is_plain.true }
