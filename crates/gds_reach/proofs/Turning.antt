-- References turned round.
use Rattle.std.proofs.Common.{◌≡◌, ◌⊎◌, inl, inr, ◌↔◌, ℕ, zero, suc, ◌+◌, ◌<◌, List, [], ◌∷◌, ◌++◌, length, set, Option, None, Some, refl, sym, ap, subst, ◌∙◌, arith}
use Rattle.std.proofs.lemmas.Bool.{cases_eq}
use Rattle.std.proofs.lemmas.Option.{same_Some}
use Rattle.std.specs.Prelude.{slice_get}
use Rattle.std.specs.Global.{Vec}
use Rattle.list_facts.proofs.Slots.{at_end, front, one_more}
use Rattle.gds_reach.specs.References.{IsNamed, IsNamedBelow, Refers, named_in}
use Rattle.gds_reach.specs.Working.Turning.{AreTurned}
use Rattle.gds_reach.proofs.Naming.{below_here, below_more, below_skip, below_split}

-- one structure more, without references
pub none_more : (links : List (Vec (Option ℕ))) (v : Vec (Option ℕ)) → ((i j : ℕ) → Refers links i j → ⊥) → v.items ≡ [] → (i j : ℕ) → Refers (links ++ v ∷ []) i j → ⊥
none_more [] v none e zero j (p, q) = let r : None ≡ Some (Some j) = ap (λ xs. slice_get xs p) (sym e) ∙ q in absurd (cc)
none_more [] v none e (suc i) j (p, q) = absurd (cc)
none_more (w ∷ ws) v none e zero j named = none zero j named
none_more (w ∷ ws) v none e (suc i) j refers = none_more ws v (λ a b. none (suc a) b) e i j refers

named_written : (links : List (Vec (Option ℕ))) (k : ℕ) (v : Vec (Option ℕ)) → k < length links → named_in (set links k v) k ≡ v.items
named_written [] k v l = absurd (omega arith)
named_written (w ∷ ws) zero v l = refl
named_written (w ∷ ws) (suc k) v l = named_written ws k v (omega arith)

named_unwritten : (links : List (Vec (Option ℕ))) (k i : ℕ) (v : Vec (Option ℕ)) → (i ≡ k → ⊥) → named_in (set links k v) i ≡ named_in links i
named_unwritten [] k i v n = refl
named_unwritten (w ∷ ws) zero zero v n = absurd (n refl)
named_unwritten (w ∷ ws) zero (suc i) v n = refl
named_unwritten (w ∷ ws) (suc k) zero v n = refl
named_unwritten (w ∷ ws) (suc k) (suc i) v n = named_unwritten ws k i v (λ q. n (ap suc q))

-- one reference more is turned: that from structure `at` to structure k
pub turn_more : (named : List (Option ℕ)) (old links : List (Vec (Option ℕ))) (v : Vec (Option ℕ)) (n k at : ℕ) → slice_get named n ≡ Some (Some k) → k < length links
    → v.items ≡ named_in links k ++ Some at ∷ []
    → ((i j : ℕ) → Refers links i j ↔ (Refers old i j ⊎ (IsNamedBelow named n i × (j ≡ at))))
    → (i j : ℕ) → Refers (set links k v) i j ↔ (Refers old i j ⊎ (IsNamedBelow named (n + 1) i × (j ≡ at)))
turn_more named old links v n k at here l e so_far i j = (
  λ refers. elim (was refers) [
    | inl r ↦ elim ((so_far i j).0 r) [
      | inl o ↦ inl o
      | inr (b, q) ↦ inr (below_more named n i b, q)
    ]
    | inr (q, r) ↦ inr (below_here named n i (here ∙ ap (λ x. Some (Some x)) (sym q)), r)
  ],
  λ either. elim (before either) [
    | inl b ↦ kept ((so_far i j).1 b)
    | inr (q, r) ↦ subst (λ x. Refers (set links k v) x j) (sym q) (subst (λ x. Refers (set links k v) k x) (sym r) new)
  ],
)
  where
    here_is : named_in (set links k v) k ≡ named_in links k ++ Some at ∷ []
    here_is = named_written links k v l ∙ e

    new : Refers (set links k v) k at
    new = (length (named_in links k), ap (λ xs. slice_get xs (length (named_in links k))) here_is ∙ at_end (named_in links k) (Some at))

    was : Refers (set links k v) i j → Refers links i j ⊎ ((i ≡ k) × (j ≡ at))
    was (p, f) =
        elim (cases_eq i k) [
          | inl q ↦ elim (one_more (named_in links k) p (Some j) (Some at) (ap (λ xs. slice_get xs p) (sym here_is) ∙ (ap (λ x. slice_get (named_in (set links k v) x) p) (sym q) ∙ f))) [
            | inl (m, r) ↦ inl (p, ap (λ x. slice_get (named_in links x) p) q ∙ r)
            | inr (m, r) ↦ inr (q, same_Some j at r)
          ]
          | inr q ↦ inl (p, ap (λ xs. slice_get xs p) (sym (named_unwritten links k i v q)) ∙ f)
        ]

    kept : Refers links i j → Refers (set links k v) i j
    kept (p, f) =
        elim (cases_eq i k) [
          | inl q ↦ (p, ap (λ x. slice_get (named_in (set links k v) x) p) q ∙ (ap (λ xs. slice_get xs p) here_is ∙ front (named_in links k) (Some at ∷ []) p (Some j) (ap (λ x. slice_get (named_in links x) p) (sym q) ∙ f)))
          | inr q ↦ (p, ap (λ xs. slice_get xs p) (named_unwritten links k i v q) ∙ f)
        ]

    before : Refers old i j ⊎ (IsNamedBelow named (n + 1) i × (j ≡ at)) → (Refers old i j ⊎ (IsNamedBelow named n i × (j ≡ at))) ⊎ ((i ≡ k) × (j ≡ at))
    before (inl o) = inl (inl o)
    before (inr (b, r)) =
        elim (below_split named n i b) [
          | inl c ↦ inl (inr (c, r))
          | inr f ↦ inr (same_Some i k (same_Some (Some i) (Some k) (sym f ∙ here)), r)
        ]

pub turn_skip : (named : List (Option ℕ)) (old links : List (Vec (Option ℕ))) (n at : ℕ) → slice_get named n ≡ Some None
    → ((i j : ℕ) → Refers links i j ↔ (Refers old i j ⊎ (IsNamedBelow named n i × (j ≡ at))))
    → (i j : ℕ) → Refers links i j ↔ (Refers old i j ⊎ (IsNamedBelow named (n + 1) i × (j ≡ at)))
turn_skip named old links n at none so_far i j = (
  λ refers. elim ((so_far i j).0 refers) [
    | inl o ↦ inl o
    | inr (b, q) ↦ inr (below_more named n i b, q)
  ],
  λ either. elim either [
    | inl o ↦ (so_far i j).1 (inl o)
    | inr (b, q) ↦ (so_far i j).1 (inr (below_skip named n i none b, q))
  ],
)

-- the references of one structure more are turned
pub turned_more : (links old new : List (Vec (Option ℕ))) (n : ℕ) → AreTurned links n old → ((i j : ℕ) → Refers new i j ↔ (Refers old i j ⊎ (IsNamed (named_in links n) i × (j ≡ n))))
    → AreTurned links (n + 1) new
turned_more links old new n so_far more i j = (
  λ refers. elim ((more i j).0 refers) [
    | inl o ↦ let (l, r) = (so_far i j).0 o in (omega arith, r)
    | inr (named, q) ↦ ((let t : j < n + 1 = omega arith in t), subst (λ x. Refers links x i) (sym q) named)
  ],
  λ (l, refers). elim (cases_eq j n) [
    | inl q ↦ (more i j).1 (inr (subst (λ x. Refers links x i) q refers, q))
    | inr q ↦ (more i j).1 (inl ((so_far i j).1 (omega arith, refers)))
  ],
)

pub none_turned : (links none : List (Vec (Option ℕ))) → ((i j : ℕ) → Refers none i j → ⊥) → AreTurned links 0 none
none_turned links none never i j = (λ refers. absurd (never i j refers), λ (l, refers). absurd (omega arith))
