-- The parts of the code as those of the grammar.
use Rattle.std.specs.Prelude.{List, map, reverse}
use Rattle.deck_grammar.specs.declared.kind.Kind.TheVariants as kinds
use Rattle.deck_grammar.specs.Rules as r
use Rattle.deck_stacks.specs.declared.part.Rule.{Rule}
use Rattle.deck_stacks.specs.declared.part.Rule.TheVariants as rules
use Rattle.deck_stacks.specs.declared.part.Left.{Left}
use Rattle.deck_stacks.specs.declared.part.Part.{Part}
use Rattle.deck_stacks.specs.declared.part.Part.TheVariants as parts

abbrev pub rule_of : Rule → r.Rule
rule_of rules.Statements = r.statements
rule_of rules.Statement = r.statement
rule_of rules.File = r.file
rule_of rules.Names = r.names
rule_of rules.Numbers = r.numbers
rule_of rules.Ascii = r.ascii
rule_of rules.Mode = r.mode
rule_of rules.MapKind = r.map_kind
rule_of rules.Items = r.items
rule_of rules.Value = r.value
rule_of rules.Addends = r.addends
rule_of rules.Product = r.product
rule_of rules.Factors = r.factors
rule_of rules.Power = r.power
rule_of rules.Exponent = r.exponent
rule_of rules.Atom = r.atom
rule_of rules.Layer = r.layer
rule_of rules.Operations = r.operations
rule_of rules.InfixOperation = r.infix_operation
rule_of rules.Primary = r.primary
rule_of rules.Term = r.term
rule_of rules.Limits = r.limits
rule_of rules.Upper = r.upper
rule_of rules.Bound = r.bound
rule_of rules.Turn = r.turn
rule_of rules.Side = r.side
rule_of (rules.Distance kind) = r.distance kind

abbrev pub left_of : Left → r.Left
left_of those = r.left those.abut those.singular those.metric those.gap those.region

abbrev pub part_of : Part → r.Part
part_of (parts.Word word) = r.token (kinds.Keyword word)
part_of (parts.Sign sign) = r.token (kinds.Sign sign)
part_of (parts.Token kind) = r.token kind
part_of (parts.Rule rule) = r.rule (rule_of rule)
part_of (parts.Options those) = r.rule (r.options (left_of those))

-- the parts from the top down, where the next one stands last
abbrev pub from_top : List Part → List r.Part
from_top those = map part_of (reverse those)
