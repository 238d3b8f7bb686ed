-- What leads to one structure, and the first references that do.
use Rattle.std.proofs.Common.{◌≡◌, inl, inr, ◌↔◌, ℕ, ◌<◌, Bool, true, false, List, length, replicate, set, Option, None, Some, sym, ap, subst, ◌∙◌, arith}
use Rattle.std.proofs.lemmas.List.{length-replicate}
use Rattle.std.proofs.lemmas.Option.{same_Some, slice_get_within}
use Rattle.std.specs.Prelude.{slice_get}
use Rattle.std.specs.Global.{Vec}
use Rattle.list_facts.proofs.Slots.{written, written_cases}
use Rattle.gds_reach.specs.declared.reference.Reference.{Reference}
use Rattle.gds_reach.specs.References.{named_in, AreWithin, IsOn, Reaches, Tell}
use Rattle.gds_reach.specs.Facts.{Finds, IsFirstPlace, IsRecursive}
use Rattle.gds_reach.specs.Live.{IsLive}
use Rattle.gds_reach.proofs.Firsts.{found_first}
use Rattle.gds_reach.proofs.Paths.{reference_at, stands_within}
use Rattle.gds_reach.proofs.Spreading.{all_off}
use Rattle.gds_recursion.specs.Working.Circles.{IsOnCircle, LeadsBack, NamesFlagged}

-- the one structure is drawn: those that are live reach it
pub one_live : (links : List (Vec (Option ℕ))) (flags : List Bool) (to : ℕ) → to < length links
    → Tell links (IsLive links (set (replicate (length links) false) to true)) flags → Tell links (λ i. Reaches links i to) flags
one_live links flags to there told = record {
  all = told.all;
  each = λ i l. (
    λ on. let (j, drawn, reaches) = (told.each i l).0 on in elim (written_cases (replicate (length links) false) to j true true drawn) [
      | inl (q, r) ↦ subst (Reaches links i) q reaches
      | inr (q, r) ↦ absurd (all_off (length links) j r)
    ],
    λ reaches. (told.each i l).1 (to, written (replicate (length links) false) to true (subst (λ n. to < n) (sym (length-replicate (length links) false)) there), reaches),
  );
}

-- ---- the first places

pub first_same : {P Q : ℕ → Type 0} (found : Option ℕ) → ((i : ℕ) → P i ↔ Q i) → IsFirstPlace P found → IsFirstPlace Q found
first_same None same f = λ i q. f i ((same i).1 q)
first_same (Some first) same (h, n) = ((same first).0 h, λ i l q. n i l ((same i).1 q))

-- what two flags tell
pub both_told : (links : List (Vec (Option ℕ))) (primary : ℕ) (reached circular : List Bool) (found : Option ℕ) → Tell links (Reaches links primary) reached → Tell links (IsOnCircle links) circular
    → IsFirstPlace (λ i. IsOn reached i × IsOn circular i) found → IsFirstPlace (λ i. Reaches links primary i × IsOnCircle links i) found
both_told links primary reached circular found a b =
    first_same {P = λ i. IsOn reached i × IsOn circular i} {Q = λ i. Reaches links primary i × IsOnCircle links i} found (λ i. (
      λ (on, round). let l : i < length links = let t = slice_get_within reached i true on in let n = a.all in omega arith in ((a.each i l).0 on, (b.each i l).0 round),
      λ (there, (k, refers, back)). let l = stands_within links i refers.0 (Some k) refers.1 in ((a.each i l).1 there, (b.each i l).1 (k, refers, back)),
    ))

-- what one flag tells
pub flagged_elsewhere : (named : List (Option ℕ)) (flags : List Bool) (n k : ℕ) → slice_get named n ≡ Some (Some k) → slice_get flags k ≡ Some false → NamesFlagged named flags n → ⊥
flagged_elsewhere named flags n k here off (j, e, on) =
    let q : j ≡ k = same_Some j k (same_Some (Some j) (Some k) (sym e ∙ here)) in
    let z : Some false ≡ Some true = sym off ∙ (ap (slice_get flags) (sym q) ∙ on) in
    absurd (cc)

pub unnamed : (named : List (Option ℕ)) (flags : List Bool) (n : ℕ) → slice_get named n ≡ Some None → NamesFlagged named flags n → ⊥
unnamed named flags n none (j, e, on) = let z : Some None ≡ Some (Some j) = sym none ∙ e in absurd (cc)

pub flagged_leads_back : (links : List (Vec (Option ℕ))) (flags : List Bool) (i : ℕ) → AreWithin links → Tell links (λ k. Reaches links k i) flags
    → (place : ℕ) → NamesFlagged (named_in links i) flags place ↔ LeadsBack links i place
flagged_leads_back links flags i within told place = (
  λ (k, e, on). (k, e, (told.each k (within i k (place, e))).0 on),
  λ (k, e, reaches). (k, e, (told.each k (within i k (place, e))).1 reaches),
)

-- ---- the first reference

-- a recursive reference stands on a circle
circle_of : (links : List (Vec (Option ℕ))) (primary : ℕ) (r : Reference) → IsRecursive links primary r → Reaches links primary r.structure × IsOnCircle links r.structure
circle_of links primary r (reached, named, e, reaches) = (reached, (named, (r.place, e), reaches))

pub none_recursive : (links : List (Vec (Option ℕ))) (primary : ℕ) → IsFirstPlace (λ i. Reaches links primary i × IsOnCircle links i) None → Finds (IsRecursive links primary) None
none_recursive links primary none = λ r recursive. none r.structure (circle_of links primary r recursive)

pub circle_there : (links : List (Vec (Option ℕ))) (primary i : ℕ) → IsFirstPlace (λ k. Reaches links primary k × IsOnCircle links k) (Some i) → i < length links
circle_there links primary i ((reached, (k, (place, e), reaches)), before) = stands_within links i place (Some k) e

-- on a circle some reference leads back
pub never_none : (links : List (Vec (Option ℕ))) (primary i : ℕ) → IsFirstPlace (λ k. Reaches links primary k × IsOnCircle links k) (Some i) → IsFirstPlace (LeadsBack links i) None → ⊥
never_none links primary i ((reached, (k, (place, e), reaches)), before) none = none place (k, e, reaches)

pub first_recursive : (links : List (Vec (Option ℕ))) (primary i place : ℕ) → IsFirstPlace (λ k. Reaches links primary k × IsOnCircle links k) (Some i) → IsFirstPlace (LeadsBack links i) (Some place)
    → Finds (IsRecursive links primary) (Some (reference_at i place))
first_recursive links primary i place (circle, before) ((k, e, reaches), first) =
    found_first (LeadsBack links) (IsRecursive links primary) i place
    (circle.0, k, e, reaches)
    (λ r less recursive. before r.structure less (circle_of links primary r recursive))
    (λ other less back. first other less back)
    (λ r (reached, named, is, leads). (named, is, leads))
