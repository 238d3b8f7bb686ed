-- What the first references of a structure name.
use Rattle.std.proofs.Common.{◌≡◌, ◌⊎◌, inl, inr, ◌↔◌, ℕ, ◌+◌, ◌<◌, ◌≤◌, Bool, true, List, length, set, Option, None, Some, sym, ap, subst, ◌∙◌, arith}
use Rattle.std.proofs.lemmas.Bool.{cases_eq}
use Rattle.std.proofs.lemmas.Option.{same_Some, slice_get_within}
use Rattle.std.specs.Prelude.{slice_get}
use Rattle.list_facts.proofs.Slots.{unwritten, written, written_cases}
use Rattle.gds_reach.specs.References.{IsNamed, IsNamedBelow, IsOn}

pub below_none : (named : List (Option ℕ)) (j : ℕ) → IsNamedBelow named 0 j → ⊥
below_none named j (place, l, e) = omega arith

pub named_below : (named : List (Option ℕ)) (n j : ℕ) → length named ≤ n → IsNamed named j → IsNamedBelow named n j
named_below named n j l (place, e) = (place, (let t = slice_get_within named place (Some j) e in omega arith), e)

pub below_named : (named : List (Option ℕ)) (n j : ℕ) → IsNamedBelow named n j → IsNamed named j
below_named named n j (place, l, e) = (place, e)

pub below_more : (named : List (Option ℕ)) (n j : ℕ) → IsNamedBelow named n j → IsNamedBelow named (n + 1) j
below_more named n j (place, l, e) = (place, omega arith, e)

pub below_here : (named : List (Option ℕ)) (n j : ℕ) → slice_get named n ≡ Some (Some j) → IsNamedBelow named (n + 1) j
below_here named n j e = (n, omega arith, e)

pub below_split : (named : List (Option ℕ)) (n j : ℕ) → IsNamedBelow named (n + 1) j → IsNamedBelow named n j ⊎ (slice_get named n ≡ Some (Some j))
below_split named n j (place, l, e) =
    elim (cases_eq place n) [
      | inl q ↦ inr (ap (slice_get named) (sym q) ∙ e)
      | inr q ↦ inl (place, omega arith, e)
    ]

pub below_skip : (named : List (Option ℕ)) (n j : ℕ) → slice_get named n ≡ Some None → IsNamedBelow named (n + 1) j → IsNamedBelow named n j
below_skip named n j none b =
    elim (below_split named n j b) [
      | inl r ↦ r
      | inr e ↦ let q : Some None ≡ Some (Some j) = sym none ∙ e in absurd (cc)
    ]

-- ---- flags of what is named

pub flagged_more : (named : List (Option ℕ)) (old flags : List Bool) (n k : ℕ) → slice_get named n ≡ Some (Some k) → k < length flags
    → ((j : ℕ) → IsOn flags j ↔ (IsOn old j ⊎ IsNamedBelow named n j)) → (j : ℕ) → IsOn (set flags k true) j ↔ (IsOn old j ⊎ IsNamedBelow named (n + 1) j)
flagged_more named old flags n k here l so_far j = (
  λ on. elim (written_cases flags k j true true on) [
    | inl (q, r) ↦ inr (below_here named n j (here ∙ ap (λ x. Some (Some x)) (sym q)))
    | inr (q, r) ↦ elim ((so_far j).0 r) [
      | inl o ↦ inl o
      | inr b ↦ inr (below_more named n j b)
    ]
  ],
  λ either. elim (cases_eq j k) [
    | inl q ↦ subst (IsOn (set flags k true)) (sym q) (written flags k true l)
    | inr q ↦ unwritten flags k j true q ∙ (so_far j).1 (was either q)
  ],
)
  where
    was : IsOn old j ⊎ IsNamedBelow named (n + 1) j → (j ≡ k → ⊥) → IsOn old j ⊎ IsNamedBelow named n j
    was (inl o) q = inl o
    was (inr b) q =
        elim (below_split named n j b) [
          | inl r ↦ inr r
          | inr e ↦ absurd (q (same_Some j k (same_Some (Some j) (Some k) (sym e ∙ here))))
        ]

pub flagged_skip : (named : List (Option ℕ)) (old flags : List Bool) (n : ℕ) → slice_get named n ≡ Some None
    → ((j : ℕ) → IsOn flags j ↔ (IsOn old j ⊎ IsNamedBelow named n j)) → (j : ℕ) → IsOn flags j ↔ (IsOn old j ⊎ IsNamedBelow named (n + 1) j)
flagged_skip named old flags n none so_far j = (
  λ on. elim ((so_far j).0 on) [
    | inl o ↦ inl o
    | inr b ↦ inr (below_more named n j b)
  ],
  λ either. elim either [
    | inl o ↦ (so_far j).1 (inl o)
    | inr b ↦ (so_far j).1 (inr (below_skip named n j none b))
  ],
)
