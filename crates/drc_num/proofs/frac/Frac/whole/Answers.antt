use Rattle.drc_num.proofs.Numbers.{isnt_whole}
use Rattle.drc_num.proofs.frac.Frac.whole.Goals as goal

pub returns-else-self-eq1-clause-none : goal.returns-else-self-eq1-clause-none
returns-else-self-eq1-clause-none c = rw (← c.self.view_is) (isnt_whole _ c.self.invariant c.if-self-eq1.false)
