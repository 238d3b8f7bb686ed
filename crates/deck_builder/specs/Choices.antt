-- One option of a check of distances, and those that may still stand behind it.
use Rattle.std.specs.Prelude.{◌≡◌, ℕ, ◌+◌, Bool, true, false, Option, Some, None, if◌then◌else◌}
use Rattle.deck_tree.specs.declared.distance.Options.{Options}
use Rattle.deck_grammar.specs.Rules as r
use Rattle.deck_cursor.specs.Places.{Place}
use Rattle.deck_cursor.specs.Steps.{Reads}
use Rattle.deck_builder.specs.declared.options.Left.{Left}
use Rattle.deck_builder.specs.declared.options.Choice.{Choice}
use Rattle.deck_builder.specs.declared.options.Choice.TheVariants as choices

-- which options may still stand, as the grammar has them
abbrev pub left_of : Left → r.Left
left_of those = r.left those.abut those.singular those.metric those.gap those.region

-- it is among those that may still stand
abbrev pub may_stand : Left → Choice → Bool
may_stand those (choices.Abut value) = those.abut
may_stand those choices.Singular = those.singular
may_stand those (choices.Metric metric) = those.metric
may_stand those (choices.Gap gap) = those.gap
may_stand those choices.Region = those.region

-- those that may still stand behind it
abbrev pub without : Left → Choice → Left
without those (choices.Abut value) = record those { abut = false }
without those choices.Singular = record those { singular = false }
without those (choices.Metric metric) = record those { metric = false }
without those (choices.Gap gap) = record those { gap = false }
without those choices.Region = record those { region = false }

-- the options with it
abbrev pub with_choice : Options → Choice → Options
with_choice others (choices.Abut value) = record others { abut = Some value }
with_choice others choices.Singular = record others { singular = true }
with_choice others (choices.Metric metric) = record others { metric = Some metric }
with_choice others (choices.Gap gap) = record others { gap = Some gap }
with_choice others choices.Region = record others { region = true }

-- the tokens of an option: where it may stand, they are with options behind them those of both
abbrev pub ReadsChoice : Place → Place → Choice → Type 0
ReadsChoice from to choice =
    (those : Left) → may_stand those choice ≡ true → (behind : Place) (others : Options)
    → Reads (r.options (left_of (without those choice))) to behind others → Reads (r.options (left_of those)) from behind (with_choice others choice)

-- an option, or nothing is read
abbrev pub MayReadChoice : Place → Place → Option Choice → Type 0
MayReadChoice from to (Some choice) = ReadsChoice from to choice
MayReadChoice from to None = to ≡ from

abbrev one_if : Bool → ℕ
one_if b = if b then 1 else 0

-- how many options may still stand
abbrev pub how_many : Left → ℕ
how_many those = one_if those.abut + one_if those.singular + one_if those.metric + one_if those.gap + one_if those.region
