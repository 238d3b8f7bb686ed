-- Which tokens are set aside at their place, by tests.
use Rattle.std.specs.Prelude.{◌&&◌, ◌||◌, Bool, true, false, List}
use Rattle.deck_grammar.specs.declared.keyword.Keyword.{Keyword}
use Rattle.deck_grammar.specs.declared.keyword.Keyword.TheVariants as k
use Rattle.deck_grammar.specs.declared.sign.Sign.{Sign}
use Rattle.deck_grammar.specs.declared.sign.Sign.TheVariants as s
use Rattle.deck_grammar.specs.declared.kind.Kind.{Kind}
use Rattle.deck_grammar.specs.declared.kind.Kind.TheVariants as kinds
use Rattle.deck_refusal.specs.Working.Recent.{begins_with_one}
use Rattle.deck_refusal.specs.Working.Ends.{input_ends, bound_ends, map_ends}

abbrev pub is_infix_word : Keyword → Bool
is_infix_word k.And = true
is_infix_word k.Or = true
is_infix_word k.Not = true
is_infix_word k.Xor = true
is_infix_word k.Inside = true
is_infix_word k.Outside = true
is_infix_word k.Interact = true
is_infix_word k.Touch = true
is_infix_word k.Cut = true
is_infix_word k.Enclose = true
is_infix_word k.Coincident = true
is_infix_word other = false

abbrev pub is_other_comparison : Sign → Bool
is_other_comparison s.Greater = true
is_other_comparison s.GreaterOrEqual = true
is_other_comparison s.EqualTo = true
is_other_comparison s.NotEqual = true
is_other_comparison other = false

abbrev pub is_comparison : Sign → Bool
is_comparison s.Less = true
is_comparison s.LessOrEqual = true
is_comparison sign = is_other_comparison sign

-- behind tokens of these kinds, the last first
abbrev pub comparison_is_set_aside : Sign → List Kind → Bool
comparison_is_set_aside sign recent =
    (is_other_comparison sign && begins_with_one bound_ends recent) || (is_comparison sign && begins_with_one
    map_ends recent)

abbrev pub sign_is_set_aside : Sign → List Kind → Bool
sign_is_set_aside s.LeftRound recent = begins_with_one input_ends recent
sign_is_set_aside sign recent = comparison_is_set_aside sign recent

-- and where a layer may start or not
abbrev pub is_set_aside : Bool → List Kind → Kind → Bool
is_set_aside may_start recent kinds.SetAside = true
is_set_aside may_start recent (kinds.Keyword word) = is_infix_word word && may_start
is_set_aside may_start recent (kinds.Sign sign) = sign_is_set_aside sign recent
is_set_aside may_start recent other = false
