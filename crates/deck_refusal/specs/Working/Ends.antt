-- What tokens end in where an input, a bound or a number of LAYER MAP may start, the last first.
use Rattle.std.specs.Prelude.{List, [], ◌∷◌, ◌++◌, map, reverse}
use Rattle.std.specs.List.{flat_map}
use Rattle.deck_grammar.specs.declared.keyword.Keyword.{Keyword}
use Rattle.deck_grammar.specs.declared.keyword.Keyword.TheVariants as k
use Rattle.deck_grammar.specs.declared.kind.Kind.{Kind}
use Rattle.deck_grammar.specs.declared.kind.Kind.TheVariants as kinds
use Rattle.deck_grammar.specs.Refusals.{distance_words, one_input_words, inputs}

-- the word and one input
abbrev with_one : Keyword → List (List Kind)
with_one word = map (λ first. reverse (kinds.Keyword word ∷ first)) inputs

-- the word and two inputs
abbrev with_two : Keyword → List (List Kind)
with_two word = flat_map (λ first. map (λ second. reverse (kinds.Keyword word ∷ first ++ second)) inputs) inputs

abbrev pub input_ends : List (List Kind)
input_ends = map (λ word. kinds.Keyword word ∷ []) distance_words ++ flat_map with_one distance_words

abbrev pub bound_ends : List (List Kind)
bound_ends = flat_map with_one one_input_words ++ (flat_map with_two distance_words ++ (kinds.Keyword k.Abut ∷ []) ∷ [])

abbrev pub map_ends : List (List Kind)
map_ends =
    (kinds.Keyword k.Map ∷ kinds.Keyword k.Layer ∷ [])
    ∷ (map (λ word. kinds.Keyword word ∷ kinds.Number ∷ kinds.Keyword k.Map ∷ kinds.Keyword k.Layer ∷ []) (k.DataType
    ∷ k.TextType ∷ [])
    ++ map (λ word. kinds.Number ∷ kinds.Keyword word ∷ kinds.Number ∷ kinds.Keyword k.Map ∷ kinds.Keyword k.Layer ∷
    []) (k.DataType ∷ k.TextType ∷ []))
