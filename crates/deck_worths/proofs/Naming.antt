-- What is kept of names stands for what names of the definitions stand for, and what was told of names.
use Rattle.std.proofs.Common.{◌≡◌, ◌≢◌, ◌⊎◌, inl, inr, ℕ, zero, suc, List, [], ◌∷◌, Option, Some, None, refl, sym, subst, ◌∙◌}
use Rattle.std.proofs.lemmas.Bool.{cases_Bool}
use Rattle.std.proofs.lemmas.Option.{none-some}
use Rattle.std.specs.Prelude.{nat_eq, slice_get}
use Rattle.std.specs.Borrow.{Bor}
use Rattle.std.specs.Cmp.Lexicographic.{pointwise, same_text, other_text}
use Rattle.std.specs.List.{AllByRecursion}
use Rattle.drc_num.specs.Fractions.{Fraction}
use Rattle.deck_tree.specs.declared.name_at.NameAt.{NameAt}
use Rattle.deck_tree.specs.Names.{Names}
use Rattle.deck_uses.specs.UsedNames.{shown as shown_names}
use Rattle.deck_worths.specs.Working.SoFar.{IsTold}

-- ---- One name more is told

alike_or_not : (q name : List ℕ) → (q ≡ name) ⊎ (q ≢ name)
alike_or_not q name =
    elim (cases_Bool (pointwise nat_eq q name)) [
      | inl y ↦ inl (same_text q name (sym y))
      | inr n ↦ inr (other_text q name (sym n))
    ]

module _ (old new known : Names) (name : List ℕ) (w : Option Fraction) (is : known name ≡ Some w)
    (told : old name ≡ None → new name ≡ Some w) (kept : old name ≢ None → new name ≡ old name) (others : (q : List ℕ) → q ≢ name → new q ≡ old q)
    (so_far : IsTold old known) where
  pub told_now : new name ≡ known name
  told_now = by (old name) refl
    where
      by : (o : Option (Option Fraction)) → old name ≡ o → new name ≡ known name
      by None e = told e ∙ sym is
      by (Some v) e =
          elim (so_far name) [
            | inl none ↦ told none ∙ sym is
            | inr same ↦ kept (λ none. none-some v (sym none ∙ e)) ∙ same
          ]

  pub told_still : (q : List ℕ) → old q ≡ known q → new q ≡ known q
  told_still q e =
      elim (alike_or_not q name) [
        | inl same ↦ subst (λ p. new p ≡ known p) (sym same) told_now
        | inr other ↦ others q other ∙ e
      ]

  pub told_more : IsTold new known
  told_more q =
      elim (alike_or_not q name) [
        | inl same ↦ inr (subst (λ p. new p ≡ known p) (sym same) told_now)
        | inr other ↦ elim (so_far q) [
          | inl none ↦ inl (others q other ∙ none)
          | inr known ↦ inr (others q other ∙ known)
        ]
      ]

-- ---- All names are told

pub all_told : (P : NameAt → Type 0) (used : List (Bor NameAt)) → ((k : ℕ) (x : Bor NameAt) → slice_get used k ≡ Some x → P x.now) → AllByRecursion P (shown_names used)
all_told P [] at = tt
all_told P (x ∷ xs) at = (at zero x refl, all_told P xs (λ k y. at (suc k) y))
