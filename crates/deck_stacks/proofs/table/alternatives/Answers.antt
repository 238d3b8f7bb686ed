use Rattle.std.proofs.Common.{sym, ap, ◌∙◌}
use Rattle.deck_stacks.specs.Working.Tables.{parts_of}
use Rattle.deck_stacks.specs.Parts.{rule_of}
use Rattle.deck_stacks.proofs.table.alternatives.Goals as goal

pub returns-in-Statements : goal.returns-in-Statements
returns-in-Statements c = ap (λ rule. parts_of (rule_of rule)) (sym c.in-Statements.is)

pub returns-in-Statement : goal.returns-in-Statement
returns-in-Statement c = ap (λ rule. parts_of (rule_of rule)) (sym c.in-Statement.is)

pub returns-in-File : goal.returns-in-File
returns-in-File c = ap (λ rule. parts_of (rule_of rule)) (sym c.in-File.is)

pub returns-in-Names : goal.returns-in-Names
returns-in-Names c = ap (λ rule. parts_of (rule_of rule)) (sym c.in-Names.is)

pub returns-in-Numbers : goal.returns-in-Numbers
returns-in-Numbers c = ap (λ rule. parts_of (rule_of rule)) (sym c.in-Numbers.is)

pub returns-in-Ascii : goal.returns-in-Ascii
returns-in-Ascii c = ap (λ rule. parts_of (rule_of rule)) (sym c.in-Ascii.is)

pub returns-in-Mode : goal.returns-in-Mode
returns-in-Mode c = ap (λ rule. parts_of (rule_of rule)) (sym c.in-Mode.is)

pub returns-in-MapKind : goal.returns-in-MapKind
returns-in-MapKind c = ap (λ rule. parts_of (rule_of rule)) (sym c.in-MapKind.is)

pub returns-in-Items : goal.returns-in-Items
returns-in-Items c = ap (λ rule. parts_of (rule_of rule)) (sym c.in-Items.is)

pub returns-in-Value : goal.returns-in-Value
returns-in-Value c = ap (λ rule. parts_of (rule_of rule)) (sym c.in-Value.is)

pub returns-in-Addends : goal.returns-in-Addends
returns-in-Addends c = ap (λ rule. parts_of (rule_of rule)) (sym c.in-Addends.is)

pub returns-in-Product : goal.returns-in-Product
returns-in-Product c = ap (λ rule. parts_of (rule_of rule)) (sym c.in-Product.is)

pub returns-in-Factors : goal.returns-in-Factors
returns-in-Factors c = ap (λ rule. parts_of (rule_of rule)) (sym c.in-Factors.is)

pub returns-in-Power : goal.returns-in-Power
returns-in-Power c = ap (λ rule. parts_of (rule_of rule)) (sym c.in-Power.is)

pub returns-in-Exponent : goal.returns-in-Exponent
returns-in-Exponent c = ap (λ rule. parts_of (rule_of rule)) (sym c.in-Exponent.is)

pub returns-in-Atom : goal.returns-in-Atom
returns-in-Atom c = ap (λ rule. parts_of (rule_of rule)) (sym c.in-Atom.is)

pub returns-in-Layer : goal.returns-in-Layer
returns-in-Layer c = ap (λ rule. parts_of (rule_of rule)) (sym c.in-Layer.is)

pub returns-in-Operations : goal.returns-in-Operations
returns-in-Operations c = ap (λ rule. parts_of (rule_of rule)) (sym c.in-Operations.is)

pub returns-in-InfixOperation : goal.returns-in-InfixOperation
returns-in-InfixOperation c = ap (λ rule. parts_of (rule_of rule)) (sym c.in-InfixOperation.is)

pub returns-in-Primary : goal.returns-in-Primary
returns-in-Primary c = ap (λ rule. parts_of (rule_of rule)) (sym c.in-Primary.is)

pub returns-in-Term : goal.returns-in-Term
returns-in-Term c = ap (λ rule. parts_of (rule_of rule)) (sym c.in-Term.is)

pub returns-in-Limits : goal.returns-in-Limits
returns-in-Limits c = ap (λ rule. parts_of (rule_of rule)) (sym c.in-Limits.is)

pub returns-in-Upper : goal.returns-in-Upper
returns-in-Upper c = ap (λ rule. parts_of (rule_of rule)) (sym c.in-Upper.is)

pub returns-in-Bound : goal.returns-in-Bound
returns-in-Bound c = ap (λ rule. parts_of (rule_of rule)) (sym c.in-Bound.is)

pub returns-in-Turn : goal.returns-in-Turn
returns-in-Turn c = ap (λ rule. parts_of (rule_of rule)) (sym c.in-Turn.is)

pub returns-in-Side : goal.returns-in-Side
returns-in-Side c = ap (λ rule. parts_of (rule_of rule)) (sym c.in-Side.is)

pub returns-in-Distance : goal.returns-in-Distance
returns-in-Distance c = c.distance_alternatives.ensures ∙ ap (λ rule. parts_of (rule_of rule)) (sym c.in-Distance.is)
