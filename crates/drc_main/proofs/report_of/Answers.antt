use Rattle.drc_main.proofs.report_of.Goals as goal

pub returns-in-Ok-clause-kept : goal.returns-in-Ok-clause-kept
returns-in-Ok-clause-kept g c = rw (c.in-Ok.is, ← c.deref.ensures.value) c.run.ensures.ended
