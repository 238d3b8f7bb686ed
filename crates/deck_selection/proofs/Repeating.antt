-- One name more: whether an earlier one is the same, and that it is known from then on.
use Rattle.std.proofs.Common.{◌≡◌, ℕ, ◌+◌, Bool, true, false, ◌||◌, List, [], ◌∷◌, ◌++◌, take, drop, get_or, Some, refl, sym, ap, ◌∙◌, arith}
use Rattle.std.specs.Prelude.{nat_eq, slice_get}
use Rattle.std.specs.Cmp.Lexicographic.{pointwise}
use Rattle.std.proofs.lemmas.List.{append_assoc, drop_more, take_more}
use Rattle.std.proofs.lemmas.List.Folds.{list_any-append}
use Rattle.std.proofs.lemmas.Option.{same_Some, slice_get-get_or, slice_get_within}
use Rattle.deck_tree.specs.declared.name_at.NameAt.{NameAt}
use Rattle.deck_tree.specs.declared.refusal.DeckKind.TheVariants as kinds
use Rattle.deck_tree.specs.declared.refusal.DeckRefusal.{DeckRefusal}
use Rattle.deck_selection.specs.Selection.{is_named}
use Rattle.deck_selection.specs.CheckNames.{one_if, repeated}

last : (b : Bool) → (b || false) ≡ b
last true = refl
last false = refl

module _ (names : List NameAt) (n : ℕ) (x : NameAt) (here : slice_get names n ≡ Some x) where
  read : get_or names n x ≡ x
  read = same_Some (get_or names n x) x (sym (slice_get-get_or names n x (slice_get_within names n x here)) ∙ here)

  left : drop n names ≡ x ∷ drop (n + 1) names
  left = drop_more names n x (slice_get_within names n x here) ∙ ap (λ y. y ∷ drop (n + 1) names) read

  gone : take (n + 1) names ≡ take n names ++ x ∷ []
  gone = take_more names n x (slice_get_within names n x here) ∙ ap (λ y. take n names ++ y ∷ []) read

  pub one_fact : (before new whole : List DeckRefusal) (known : Bool) → known ≡ is_named x.name (take n names) → new ≡ before ++ one_if known kinds.DuplicateName x → before ++ repeated (take n names) (drop n names) ≡ whole → new ++ repeated (take (n + 1) names) (drop (n + 1) names) ≡ whole
  one_fact before new whole known k e w =
      let rest = drop (n + 1) names in
      let step : one_if known kinds.DuplicateName x ++ repeated (take (n + 1) names) rest ≡ repeated (take n names) (drop n names) =
      ap (λ b. one_if b kinds.DuplicateName x ++ repeated (take (n + 1) names) rest) k
      ∙ (ap (λ l. one_if (is_named x.name (take n names)) kinds.DuplicateName x ++ repeated l rest) gone
      ∙ ap (λ l. repeated (take n names) l) (sym left)) in
      ap (λ l. l ++ repeated (take (n + 1) names) rest) e
      ∙ (append_assoc before (one_if known kinds.DuplicateName x) (repeated (take (n + 1) names) rest)
      ∙ (ap (λ l. before ++ l) step ∙ w))

  pub one_known : (q : List ℕ) (old new : Bool) → new ≡ (old || pointwise nat_eq q x.name) → old ≡ is_named q (take n names) → new ≡ is_named q (take (n + 1) names)
  one_known q old new e k =
      let same = pointwise nat_eq q x.name in
      e ∙ (ap (λ b. b || same) k
      ∙ (ap (λ b. is_named q (take n names) || b) (sym (last same))
      ∙ (sym (list_any-append (λ (m : NameAt). pointwise nat_eq q m.name) (take n names) (x ∷ []))
      ∙ ap (is_named q) (sym gone))))
