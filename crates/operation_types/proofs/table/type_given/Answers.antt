use Rattle.std.proofs.Common.{sym}
use Rattle.operation_types.proofs.Typed.{has_type, has_none, no_row}
use Rattle.operation_types.proofs.table.type_given.Goals as goal

pub returns-in-Some : goal.returns-in-Some
returns-in-Some c = record {
  given = has_type c.args.operation.now c.args.first c.args.second c.in-Some.signature (sym c.in-Some.ensures) c.given_by.result c.given_by.ensures;
  none = has_none c.args.operation.now c.args.first c.args.second c.in-Some.signature (sym c.in-Some.ensures) c.given_by.result c.given_by.ensures;
}

pub returns-in-None : goal.returns-in-None
returns-in-None c = record { given = tt; none = no_row c.args.operation.now c.args.first c.args.second (sym c.in-None.ensures) }
