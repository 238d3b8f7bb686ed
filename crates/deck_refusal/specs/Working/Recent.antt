-- The kinds of the last tokens, the last first, and what tokens may end in.
use Rattle.std.specs.Prelude.{◌&&◌, ◌||◌, Bool, true, false, List, [], ◌∷◌, map, take, reverse}
use Rattle.deck_grammar.specs.declared.kind.Kind.{Kind}
use Rattle.deck_grammar.specs.Lexemes.{Lexeme, kind}
use Rattle.deck_grammar.specs.Working.Numbers.{same_kind}

-- the kinds of the last seven tokens, the last first
abbrev pub latest : List Lexeme → List Kind
latest before = take 7 (reverse (map kind before))

-- the kinds begin with these
abbrev pub begins_with : List Kind → List Kind → Bool
begins_with [] kinds = true
begins_with (one ∷ those) [] = false
begins_with (one ∷ those) (k ∷ kinds) = same_kind k one && begins_with those kinds

-- they begin with one of these lists
abbrev pub begins_with_one : List (List Kind) → List Kind → Bool
begins_with_one [] kinds = false
begins_with_one (those ∷ others) kinds = begins_with those kinds || begins_with_one others kinds
