-- References as uses.
use Rattle.std.proofs.Common.{◌≡◌, ◌⊎◌, inl, inr, ◌↔◌, ℕ, zero, suc, ◌+◌, ◌<◌, ◌≤◌, List, [], ◌∷◌, ◌++◌, length, Option, None, Some, refl, sym, ap, subst, ◌∙◌, arith}
use Rattle.std.proofs.lemmas.Bool.{cases_eq}
use Rattle.std.proofs.lemmas.Option.{same_Some}
use Rattle.std.specs.Prelude.{slice_get}
use Rattle.std.specs.Global.{Vec}
use Rattle.list_facts.proofs.Slots.{at_end, front, one_more}
use Rattle.deck_order.specs.Uses.{IsUse}
use Rattle.gds_reach.specs.References.{named_in, IsNamed, IsNamedBelow, Refers}
use Rattle.gds_reach.proofs.Naming.{below_here, below_more, below_none, below_skip, below_split}
use Rattle.gds_reach.proofs.Paths.{stands_within}
use Rattle.gds_recursion.specs.Working.Circles.{AreUses, IsHeld}

-- ---- numbers of one structure

pub held_more : (named : List (Option ℕ)) (numbers : List ℕ) (n k : ℕ) → slice_get named n ≡ Some (Some k) → ((j : ℕ) → IsHeld numbers j ↔ IsNamedBelow named n j)
    → (j : ℕ) → IsHeld (numbers ++ k ∷ []) j ↔ IsNamedBelow named (n + 1) j
held_more named numbers n k here so_far j = (
  λ (a, e). elim (one_more numbers a j k e) [
    | inl (l, q) ↦ below_more named n j ((so_far j).0 (a, q))
    | inr (l, q) ↦ below_here named n j (here ∙ ap (λ x. Some (Some x)) (sym q))
  ],
  λ below. elim (below_split named n j below) [
    | inl old ↦ let (a, e) = (so_far j).1 old in (a, front numbers (k ∷ []) a j e)
    | inr e ↦
        let q : j ≡ k = same_Some j k (same_Some (Some j) (Some k) (sym e ∙ here)) in
        (length numbers, at_end numbers k ∙ ap (λ x. Some x) (sym q))
  ],
)

pub held_skip : (named : List (Option ℕ)) (numbers : List ℕ) (n : ℕ) → slice_get named n ≡ Some None → ((j : ℕ) → IsHeld numbers j ↔ IsNamedBelow named n j)
    → (j : ℕ) → IsHeld numbers j ↔ IsNamedBelow named (n + 1) j
held_skip named numbers n none so_far j = (
  λ held. below_more named n j ((so_far j).0 held),
  λ below. (so_far j).1 (below_skip named n j none below),
)

pub none_held : (named : List (Option ℕ)) (j : ℕ) → IsHeld [] j ↔ IsNamedBelow named 0 j
none_held named j = (λ (a, e). absurd (cc), λ below. absurd (below_none named j below))

-- ---- uses of all structures

use_was : (uses : List (Vec ℕ)) (v : Vec ℕ) (i j : ℕ) → IsUse (uses ++ v ∷ []) i j → IsUse uses i j ⊎ ((i ≡ length uses) × IsHeld v.items j)
use_was [] v zero j u = inr (refl, u)
use_was [] v (suc i) j (a, e) = absurd (cc)
use_was (w ∷ ws) v zero j u = inl u
use_was (w ∷ ws) v (suc i) j u =
    elim (use_was ws v i j u) [
      | inl old ↦ inl old
      | inr (q, held) ↦ inr (ap suc q, held)
    ]

use_stays : (uses : List (Vec ℕ)) (v : Vec ℕ) (i j : ℕ) → IsUse uses i j → IsUse (uses ++ v ∷ []) i j
use_stays [] v i j (a, e) = absurd (cc)
use_stays (w ∷ ws) v zero j u = u
use_stays (w ∷ ws) v (suc i) j u = use_stays ws v i j u

use_new : (uses : List (Vec ℕ)) (v : Vec ℕ) (j : ℕ) → IsHeld v.items j → IsUse (uses ++ v ∷ []) (length uses) j
use_new [] v j held = held
use_new (w ∷ ws) v j held = use_new ws v j held

pub uses_more : (links : List (Vec (Option ℕ))) (uses : List (Vec ℕ)) (v : Vec ℕ) (n : ℕ) → length uses ≡ n → AreUses links n uses
    → ((j : ℕ) → IsHeld v.items j ↔ IsNamed (named_in links n) j) → AreUses links (n + 1) (uses ++ v ∷ [])
uses_more links uses v n all so_far here i j = (
  λ u. elim (use_was uses v i j u) [
    | inl old ↦ let (l, r) = (so_far i j).0 old in (omega arith, r)
    | inr (q, held) ↦
        let same : i ≡ n = q ∙ all in
        ((let t : i < n + 1 = omega arith in t), subst (λ x. Refers links x j) (sym same) ((here j).0 held))
  ],
  λ (l, refers). elim (cases_eq i n) [
    | inl q ↦ subst (λ x. IsUse (uses ++ v ∷ []) x j) (all ∙ sym q) (use_new uses v j ((here j).1 (subst (λ x. Refers links x j) q refers)))
    | inr q ↦ use_stays uses v i j ((so_far i j).1 (omega arith, refers))
  ],
)

pub none_used : (links : List (Vec (Option ℕ))) → AreUses links 0 []
none_used links i j = (λ (a, e). absurd (cc), λ (l, refers). absurd (omega arith))

pub all_used : (links : List (Vec (Option ℕ))) (uses : List (Vec ℕ)) (n : ℕ) → length links ≤ n → AreUses links n uses → AreUses links (length links) uses
all_used links uses n all so_far i j = (
  λ u. let (l, refers) = (so_far i j).0 u in (stands_within links i refers.0 (Some j) refers.1, refers),
  λ (l, refers). (so_far i j).1 (omega arith, refers),
)
