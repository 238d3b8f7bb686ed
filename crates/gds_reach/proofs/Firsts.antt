-- The first references of which something holds.
use Rattle.std.proofs.Common.{◌≡◌, inl, inr, ℕ, ◌+◌, ◌<◌, Option, None, Some, subst, arith}
use Rattle.std.proofs.lemmas.Bool.{cases_eq}
use Rattle.gds_reach.specs.declared.reference.Reference.{Reference}
use Rattle.gds_reach.specs.Facts.{Finds}
use Rattle.gds_reach.proofs.Paths.{reference_at}

pub found_first : (at : ℕ → ℕ → Type 0) (holds : Reference → Type 0) (i p : ℕ) → holds (reference_at i p)
    → ((r : Reference) → r.structure < i → holds r → ⊥) → ((place : ℕ) → place < p → at i place → ⊥) → ((r : Reference) → holds r → at r.structure r.place)
    → Finds holds (Some (reference_at i p))
found_first at holds i p here below first is = (
  here,
  λ r before h. elim before [
    | inl l ↦ below r l h
    | inr (s, l) ↦ first r.place l (subst (λ x. at x r.place) s (is r h))
  ],
)

pub finds_same : {P Q : Reference → Type 0} (found : Option Reference) → ((r : Reference) → P r → Q r) → ((r : Reference) → Q r → P r) → Finds P found → Finds Q found
finds_same None to from f = λ r q. f r (from r q)
finds_same (Some first) to from (h, n) = (to first h, λ r before q. n r before (from r q))

-- one structure more
pub none_below : (holds : Reference → Type 0) (n : ℕ) → ((r : Reference) → r.structure < n → holds r → ⊥) → ((r : Reference) → r.structure ≡ n → holds r → ⊥) → (r : Reference) → r.structure < n + 1 → holds r → ⊥
none_below holds n below here r l h =
    elim (cases_eq r.structure n) [
      | inl q ↦ here r q h
      | inr q ↦ below r (omega arith) h
    ]
