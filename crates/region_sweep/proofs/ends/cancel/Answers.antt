use Rattle.std.proofs.Common.{subst, sym, ap, ◌∙◌}
use Rattle.region_sweep.specs.Working.Ends.{AscendWeakly, is_odd_number, odd_ends}
use Rattle.region_sweep.proofs.EndFlips.{number_moved, odd_moved, weakly_from_sort}
use Rattle.region_sweep.proofs.ends.cancel.Goals as goal

pub turn_all-requires-clause-order : goal.turn_all-requires-clause-order
turn_all-requires-clause-order c = subst AscendWeakly (sym c.deref.ensures.value) (weakly_from_sort c.sort_unstable.new.self.items c.sort_unstable.ensures.sorted)

pub returns-clause-odd : goal.returns-clause-odd
returns-clause-odd c = λ x. c.in_ok-turn_all.ensures.odd x ∙ (ap (λ es. odd_ends es x) c.deref.ensures.value ∙ odd_moved c.args.ends.now.items c.sort_unstable.new.self.items x c.sort_unstable.ensures.permutation)

pub returns-clause-number : goal.returns-clause-number
returns-clause-number c = c.in_ok-turn_all.ensures.number ∙ (ap is_odd_number c.deref.ensures.value ∙ number_moved c.args.ends.now.items c.sort_unstable.new.self.items c.sort_unstable.ensures.permutation)
