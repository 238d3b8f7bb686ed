use Rattle.std.proofs.Common.{sym, ap}
use Rattle.deck_grammar.specs.Rules as r
use Rattle.deck_stacks.specs.Working.Tables.{parts_of}
use Rattle.deck_stacks.proofs.table.distance_alternatives.Goals as goal

pub returns-in-Internal : goal.returns-in-Internal
returns-in-Internal c = ap (λ kind. parts_of (r.distance kind)) (sym c.in-Internal.is)

pub returns-in-External : goal.returns-in-External
returns-in-External c = ap (λ kind. parts_of (r.distance kind)) (sym c.in-External.is)

pub returns-in-Enclosure : goal.returns-in-Enclosure
returns-in-Enclosure c = ap (λ kind. parts_of (r.distance kind)) (sym c.in-Enclosure.is)
