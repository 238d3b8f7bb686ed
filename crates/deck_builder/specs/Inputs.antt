-- The inputs of a check of distances, and which options go with them.
use Rattle.std.specs.Prelude.{◌≡◌, ℕ, Bool, true, false, not, ◌||◌, Option, Some, None}
use Rattle.deck_tree.specs.declared.name_at.NameAt.{NameAt}
use Rattle.deck_tree.specs.declared.distance.DistanceKind.{DistanceKind}
use Rattle.deck_tree.specs.declared.distance.DistanceKind.TheVariants.{Internal, External, Enclosure}
use Rattle.deck_tree.specs.declared.distance.Input.{Input}
use Rattle.deck_tree.specs.declared.distance.Input.TheVariants as inputs
use Rattle.deck_grammar.specs.declared.kind.Kind.TheVariants as kinds
use Rattle.deck_grammar.specs.declared.sign.Sign.TheVariants as s
use Rattle.deck_grammar.specs.Lexemes.{name_of}
use Rattle.deck_grammar.specs.Rules as r
use Rattle.deck_cursor.specs.Places.{Place}
use Rattle.deck_builder.specs.Reading.{TakenAt, Means}

-- a name in square brackets
pub record ReadsBracketed (from to : Place) (at : ℕ) (name : NameAt) : Type 0 where
  pub inside : Place
  pub behind : Place
  pub close_at : ℕ
  pub opens : TakenAt (kinds.Sign s.LeftSquare) from inside at
  pub named : Means kinds.Name name_of inside behind name
  pub closes : TakenAt (kinds.Sign s.RightSquare) behind to close_at

-- the tokens of an input
abbrev pub ReadsInput : Place → Place → Input → Type 0
ReadsInput from to (inputs.Plain name) = Means kinds.Name name_of from to name
ReadsInput from to (inputs.Bracketed at name) = ReadsBracketed from to at name

-- the tokens of a second input, or none
abbrev pub ReadsSecond : Place → Place → Option Input → Type 0
ReadsSecond from to (Some input) = ReadsInput from to input
ReadsSecond from to None = to ≡ from

abbrev pub is_bracketed : Input → Bool
is_bracketed (inputs.Plain name) = false
is_bracketed (inputs.Bracketed at name) = true

abbrev pub second_is_bracketed : Option Input → Bool
second_is_bracketed None = false
second_is_bracketed (Some input) = is_bracketed input

-- ENC has two inputs, and of two inputs one at most is bracketed
abbrev pub go_together : DistanceKind → Input → Option Input → Bool
go_together Internal first None = true
go_together External first None = true
go_together Enclosure first None = false
go_together kind first (Some second) = not (is_bracketed first) || not (is_bracketed second)

-- NOTCH and SPACE stand only in EXT with one input
abbrev pub may_have_gap : DistanceKind → Option Input → Bool
may_have_gap External None = true
may_have_gap kind second = false

-- the options that may stand: REGION only where no input is bracketed
abbrev pub options_with : DistanceKind → Input → Option Input → r.Left
options_with kind first second =
    r.left true true true (may_have_gap kind second) (not (is_bracketed first || second_is_bracketed second))
