-- What an operation keeps of two rows.
use Rattle.std.specs.Prelude.{Bool, not, ◌&&◌, ◌||◌}
use Rattle.list_facts.specs.EitherOr.{exactly_one}
use Rattle.interval_row.specs.declared.operation.Operation.{Operation}
use Rattle.interval_row.specs.declared.operation.Operation.TheVariants.{And, Or, Not, Xor}

-- whether an operation keeps a place that the first row has or not, and the second has or not
abbrev pub joined : Operation → Bool → Bool → Bool
joined And p q = p && q
joined Or p q = p || q
joined Not p q = p && not q
joined Xor p q = exactly_one p q
