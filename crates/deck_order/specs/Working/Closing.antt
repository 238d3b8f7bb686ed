-- Closing definitions, one after another from the last.
use Rattle.std.specs.Prelude.{◌≡◌, ℕ, ◌≤◌, Bool, List, [], ◌∷◌, ◌++◌, length, take, drop, reverse, slice_set}
use Rattle.deck_order.specs.declared.mark.Mark.{Mark}
use Rattle.deck_order.specs.declared.mark.Mark.TheVariants.{Closed}
use Rattle.deck_order.specs.declared.step.Step.{Step}
use Rattle.deck_order.specs.Working.Walks.{Stage}

-- the marks, where these definitions are closed
abbrev pub marks_closed : List Mark → List ℕ → List Mark
marks_closed marks [] = marks
marks_closed marks (u ∷ us) = slice_set (marks_closed marks us) u Closed

-- the flags, where those of these definitions are b
abbrev pub flags_set : List Bool → Bool → List ℕ → List Bool
flags_set flags b [] = flags
flags_set flags b (u ∷ us) = slice_set (flags_set flags b us) u b

-- the parts where the way and the bounds are shorter, and the group from a place on is closed
abbrev pub group_left : Stage → List Step → List ℕ → ℕ → Bool → Stage
group_left s path bounds at b = record {
  marks = marks_closed s.marks (drop at s.pending);
  pending = take at s.pending;
  bounds = bounds;
  path = path;
  listed = s.listed ++ reverse (drop at s.pending);
  cyclic = flags_set s.cyclic b (drop at s.pending);
}

-- the parts where the open definitions from a place on are closed
abbrev pub closed : Stage → ℕ → Bool → Stage
closed s at b = record {
  marks = marks_closed s.marks (drop at s.pending);
  pending = take at s.pending;
  bounds = s.bounds;
  path = s.path;
  listed = s.listed ++ reverse (drop at s.pending);
  cyclic = flags_set s.cyclic b (drop at s.pending);
}

-- while the definitions from a place on are closed: those from some place on are
pub record IsClosing (old : Stage) (at : ℕ) (b : Bool) (new : Stage) : Type 0 where
  pub kept : ℕ
  pub low : at ≤ kept
  pub within : kept ≤ length old.pending
  pub stage : new ≡ closed old kept b
