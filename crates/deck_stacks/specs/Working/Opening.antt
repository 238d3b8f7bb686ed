-- What a part on top of a stack is.
use Rattle.std.specs.Prelude.{Bool, true, false, ◌&&◌, ◌||◌, List, [], ◌∷◌, Option, Some, None}
use Rattle.deck_grammar.specs.declared.kind.Kind.{Kind}
use Rattle.deck_grammar.specs.Rules.{Part, token, rule}
use Rattle.deck_stacks.specs.declared.part.Part.{Part as Piece}
use Rattle.deck_stacks.specs.Parts.{part_of}
use Rattle.deck_stacks.specs.Working.Tables.{may_be_empty}
use Rattle.deck_stacks.specs.Working.Deriving.{all_empty}

-- the kind of the token that a part is, if it is one
abbrev pub token_of : Part → Option Kind
token_of (token k) = Some k
token_of (rule q) = None

-- a part may spell nothing
abbrev pub is_empty_way : Part → Bool
is_empty_way (token k) = false
is_empty_way (rule q) = may_be_empty q

-- one of the stacks may spell nothing
abbrev pub some_empty : List (List Part) → Bool
some_empty [] = false
some_empty (stack ∷ others) = all_empty stack || some_empty others

-- each of the parts may spell nothing
abbrev pub each_empty : List Piece → Bool
each_empty [] = true
each_empty (part ∷ others) = is_empty_way (part_of part) && each_empty others
