-- What a stack shows, and what stacks do.
use Rattle.std.specs.Prelude.{List}
use Rattle.deck_grammar.specs.Rules as r
use Rattle.deck_stacks.specs.declared.stack.Stack.TheInside.{Inside}
use Rattle.deck_stacks.specs.Parts.{from_top}

abbrev pub stacked : Inside → List r.Part
stacked stack = from_top stack.parts.items
