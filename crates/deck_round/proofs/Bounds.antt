-- The canonical text of bounds is spelled by the grammar as they are, but for places.
use Rattle.std.proofs.Common.{◌≡◌, ℕ, true, List, [], ◌∷◌, ◌++◌, Option, Some, None, refl, ap, ◌∙◌}
use Rattle.std.specs.Option.{option_map, option_map_or}
use Rattle.deck_tree.specs.declared.value.Value.{Value}
use Rattle.deck_tree.specs.declared.limits.Below.{Below}
use Rattle.deck_tree.specs.declared.limits.Below.TheVariants as below
use Rattle.deck_tree.specs.declared.limits.Above.{Above}
use Rattle.deck_tree.specs.declared.limits.Above.TheVariants as above
use Rattle.deck_tree.specs.declared.limits.Bound.{Bound}
use Rattle.deck_tree.specs.declared.limits.Limits.{Limits}
use Rattle.deck_tree.specs.declared.limits.Limits.TheVariants as limits
use Rattle.deck_tree.specs.WellFormed.{is_formed_value, is_formed_bound, is_formed_limits, depth_of_value, depth_of_bound, depth_of_limits}
use Rattle.deck_tree.specs.Plain.{plain_value, plain_bound, plain_limits}
use Rattle.deck_grammar.specs.Rules as r
use Rattle.deck_grammar.specs.Alternatives as a
use Rattle.deck_printer.specs.Values.{value_text, below_text, above_text, bound_text, upper_text, limits_text}
use Rattle.deck_round.proofs.Levels.{Fits, both_fit}
use Rattle.deck_round.proofs.Lexing.{Closed, Before}
use Rattle.deck_round.proofs.Parts.{Ruled, nothing, blank_then, rule_then, last_rule, token_space}
use Rattle.deck_round.proofs.Keywords as word
use Rattle.deck_round.proofs.Values.{value_spelled}

abbrev bound_with : Below → Value → Bound
bound_with sign value = record { sign = sign; value = value }

bound_by : (n : ℕ) → (sign : Below) (value : Value) → Fits (is_formed_value value) (depth_of_value value) n → Ruled Closed n r.bound (below_text sign ++ value_text value) (λ read. plain_bound read ≡ bound_with sign (plain_value value))
bound_by n below.Less value fits = record {
  alternative = a.bound_below;
  spelled = blank_then 32 (60 ∷ 32 ∷ value_text value) refl (token_space (60 ∷ []) (value_text value) word.less (λ at.
      last_rule (value_text value) (value_spelled value n fits) (λ v same. ap (bound_with below.Less) same)));
}
bound_by n below.LessOrEqual value fits = record {
  alternative = a.bound_at_most;
  spelled = blank_then 32 (60 ∷ 61 ∷ 32 ∷ value_text value) refl (token_space (60 ∷ 61 ∷ []) (value_text value) word.less_or_equal (λ at.
      last_rule (value_text value) (value_spelled value n fits) (λ v same. ap (bound_with below.LessOrEqual) same)));
}

pub bound_spelled : (n : ℕ) → (bound : Bound) → Fits (is_formed_bound bound) (depth_of_bound bound) n → Ruled Closed n r.bound (bound_text bound) (λ read. plain_bound read ≡ plain_bound bound)
bound_spelled n bound fits = bound_by n bound.sign bound.value fits

below_before : (sign : Below) (w : List ℕ) → Before Closed Closed (below_text sign ++ w)
below_before below.Less w = λ rest e. refl
below_before below.LessOrEqual w = λ rest e. refl

pub bound_before : (bound : Bound) → Before Closed Closed (bound_text bound)
bound_before bound = below_before bound.sign (value_text bound.value)

upper_by : (n : ℕ) → (sign : Below) (value : Value) → Fits (is_formed_value value) (depth_of_value value) n → Ruled Closed n r.upper (below_text sign ++ value_text value) (λ read. option_map plain_bound read ≡ Some (bound_with sign (plain_value value)))
upper_by n below.Less value fits = record {
  alternative = a.upper_below;
  spelled = blank_then 32 (60 ∷ 32 ∷ value_text value) refl (token_space (60 ∷ []) (value_text value) word.less (λ at.
      last_rule (value_text value) (value_spelled value n fits) (λ v same. ap (λ (z : Value). Some (bound_with below.Less z)) same)));
}
upper_by n below.LessOrEqual value fits = record {
  alternative = a.upper_at_most;
  spelled = blank_then 32 (60 ∷ 61 ∷ 32 ∷ value_text value) refl (token_space (60 ∷ 61 ∷ []) (value_text value) word.less_or_equal (λ at.
      last_rule (value_text value) (value_spelled value n fits) (λ v same. ap (λ (z : Value). Some (bound_with below.LessOrEqual z)) same)));
}

upper_spelled : (n : ℕ) → (bound : Option Bound) → Fits (option_map_or is_formed_bound bound true) (option_map_or depth_of_bound bound 0) n → Ruled Closed n r.upper (upper_text bound) (λ read. option_map plain_bound read ≡ option_map plain_bound bound)
upper_spelled n None fits = record { alternative = a.no_upper; spelled = nothing refl }
upper_spelled n (Some bound) fits = upper_by n bound.sign bound.value fits

upper_before : (bound : Option Bound) → Before Closed Closed (upper_text bound)
upper_before None = λ rest e. e
upper_before (Some bound) = bound_before bound

below_limit : (n : ℕ) → (sign : Below) (value : Value) → Fits (is_formed_value value) (depth_of_value value) n → Ruled Closed n r.limits (below_text sign ++ value_text value) (λ read. plain_limits read ≡ limits.Below (bound_with sign (plain_value value)))
below_limit n below.Less value fits = record {
  alternative = a.below_limit;
  spelled = blank_then 32 (60 ∷ 32 ∷ value_text value) refl (token_space (60 ∷ []) (value_text value) word.less (λ at.
      last_rule (value_text value) (value_spelled value n fits) (λ v same. ap (λ (z : Value). limits.Below (bound_with below.Less z)) same)));
}
below_limit n below.LessOrEqual value fits = record {
  alternative = a.at_most_limit;
  spelled = blank_then 32 (60 ∷ 61 ∷ 32 ∷ value_text value) refl (token_space (60 ∷ 61 ∷ []) (value_text value) word.less_or_equal (λ at.
      last_rule (value_text value) (value_spelled value n fits) (λ v same. ap (λ (z : Value). limits.Below (bound_with below.LessOrEqual z)) same)));
}

above_limit : (n : ℕ) → (sign : Above) (value : Value) (bound : Option Bound) → Fits (is_formed_value value) (depth_of_value value) n → Fits (option_map_or is_formed_bound bound true) (option_map_or depth_of_bound bound 0) n
    → Ruled Closed n r.limits (above_text sign ++ (value_text value ++ upper_text bound)) (λ read. plain_limits read ≡ limits.Above sign (plain_value value) (option_map plain_bound bound))
above_limit n above.Greater value bound fits more = record {
  alternative = a.above_limit;
  spelled = blank_then 32 (62 ∷ 32 ∷ (value_text value ++ upper_text bound)) refl (token_space (62 ∷ []) (value_text value ++ upper_text bound) word.greater (λ at.
      rule_then (value_text value) (upper_text bound) (value_spelled value n fits) (upper_before bound) (λ v same. last_rule (upper_text bound) (upper_spelled n bound more) (λ u all.
      ap (λ (z : Value). limits.Above above.Greater z (option_map plain_bound u)) same ∙ ap (limits.Above above.Greater (plain_value value)) all))));
}
above_limit n above.GreaterOrEqual value bound fits more = record {
  alternative = a.at_least_limit;
  spelled = blank_then 32 (62 ∷ 61 ∷ 32 ∷ (value_text value ++ upper_text bound)) refl (token_space (62 ∷ 61 ∷ []) (value_text value ++ upper_text bound) word.greater_or_equal (λ at.
      rule_then (value_text value) (upper_text bound) (value_spelled value n fits) (upper_before bound) (λ v same. last_rule (upper_text bound) (upper_spelled n bound more) (λ u all.
      ap (λ (z : Value). limits.Above above.GreaterOrEqual z (option_map plain_bound u)) same ∙ ap (limits.Above above.GreaterOrEqual (plain_value value)) all))));
}

pub limits_spelled : (n : ℕ) → (those : Limits) → Fits (is_formed_limits those) (depth_of_limits those) n → Ruled Closed n r.limits (limits_text those) (λ read. plain_limits read ≡ plain_limits those)
limits_spelled n (limits.Below bound) fits = below_limit n bound.sign bound.value fits
limits_spelled n (limits.Equal value) fits = record {
  alternative = a.equal_limit;
  spelled = blank_then 32 (61 ∷ 61 ∷ 32 ∷ value_text value) refl (token_space (61 ∷ 61 ∷ []) (value_text value) word.equal_to (λ at.
      last_rule (value_text value) (value_spelled value n fits) (λ v same. ap limits.Equal same)));
}
limits_spelled n (limits.NotEqual value) fits = record {
  alternative = a.unequal_limit;
  spelled = blank_then 32 (33 ∷ 61 ∷ 32 ∷ value_text value) refl (token_space (33 ∷ 61 ∷ []) (value_text value) word.not_equal (λ at.
      last_rule (value_text value) (value_spelled value n fits) (λ v same. ap limits.NotEqual same)));
}
limits_spelled n (limits.Above sign value bound) fits =
    let both = both_fit (is_formed_value value) (option_map_or is_formed_bound bound true) (depth_of_value value) (option_map_or depth_of_bound bound 0) n fits in
    above_limit n sign value bound both.0 both.1

above_before : (sign : Above) (w : List ℕ) → Before Closed Closed (above_text sign ++ w)
above_before above.Greater w = λ rest e. refl
above_before above.GreaterOrEqual w = λ rest e. refl

pub limits_before : (those : Limits) → Before Closed Closed (limits_text those)
limits_before (limits.Below bound) = bound_before bound
limits_before (limits.Equal value) = λ rest e. refl
limits_before (limits.NotEqual value) = λ rest e. refl
limits_before (limits.Above sign value bound) = above_before sign (value_text value ++ upper_text bound)
