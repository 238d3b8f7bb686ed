use Rattle.std.proofs.Common.{◌∙◌}
use Rattle.deck_stacks.specs.Parts.{part_of}
use Rattle.deck_stacks.proofs.Ways.{passing}
use Rattle.deck_stacks.proofs.opening.Taking.passes.Goals as goal

pub returns-in-Some : goal.returns-in-Some
returns-in-Some c =
    passing (part_of c.args.part) c.args.self.kind c.in-Some.kind
    c.is_same.result (c.token.ensures ∙ c.in-Some.is) c.is_same.ensures
