use Rattle.std.proofs.Common.{refl}
use Rattle.trace_line.specs.Lines.{title, before_operations, before_workers, before_budget, before_cost}
use Rattle.trace_line.specs.Working.Reading.{word_of_header}
use Rattle.trace_line.proofs.word.word_of_header.Goals as goal

pub returns-in-Some-after : goal.returns-in-Some-after
unfolding word_of_header title before_operations before_workers before_budget before_cost
returns-in-Some-after c = rw (c.in_default.ensures, c.in-Some-after.ensures) refl

pub returns-in-Some-after-2 : goal.returns-in-Some-after-2
unfolding word_of_header title before_operations before_workers before_budget before_cost
returns-in-Some-after-2 c = rw (c.in_default.ensures, c.in_default-after.ensures, c.in-Some-after-2.ensures) refl

pub returns-in-Some-after-3 : goal.returns-in-Some-after-3
unfolding word_of_header title before_operations before_workers before_budget before_cost
returns-in-Some-after-3 c = rw (c.in_default.ensures, c.in_default-after.ensures, c.in_default-after-2.ensures, c.in-Some-after-3.ensures) refl

pub returns-in-Some-after-4 : goal.returns-in-Some-after-4
unfolding word_of_header title before_operations before_workers before_budget before_cost
returns-in-Some-after-4 c = rw (c.in_default.ensures, c.in_default-after.ensures, c.in_default-after-2.ensures, c.in_default-after-3.ensures, c.in-Some-after-4.ensures) refl

pub returns-in_default-after-4 : goal.returns-in_default-after-4
unfolding word_of_header title before_operations before_workers before_budget before_cost
returns-in_default-after-4 c = rw (c.in_default.ensures, c.in_default-after.ensures, c.in_default-after-2.ensures, c.in_default-after-3.ensures, c.in_default-after-4.ensures) refl
