-- Where paths of so many references end.
use Rattle.std.proofs.Common.{◌≡◌, ◌⊎◌, inl, inr, ◌↔◌, ℕ, ◌+◌, ◌<◌, Bool, true, false, List, [], length, replicate, set, Option, Some, refl, sym, ap, subst, ◌∙◌, arith}
use Rattle.std.proofs.lemmas.Bool.{cases_eq}
use Rattle.std.proofs.lemmas.List.{length-replicate, length-set}
use Rattle.std.proofs.lemmas.Option.{slice_get_within}
use Rattle.std.specs.Global.{Vec}
use Rattle.list_facts.proofs.Slots.{written, written_cases}
use Rattle.gds_reach.specs.declared.reference.Reference.{Reference}
use Rattle.gds_reach.specs.References.{named_in, IsNamed, IsOn, Refers, Tell}
use Rattle.gds_reach.specs.Facts.{IsTooDeep, ReachesBy}
use Rattle.gds_reach.specs.Working.Depths.{IsReferredTo, IsReferredToBelow, StandsIn}
use Rattle.gds_reach.proofs.Paths.{by_none, by_one_less, by_one_more, stands_within}
use Rattle.gds_reach.proofs.Spreading.{all_off}

pub first_end : (links : List (Vec (Option ℕ))) (from : ℕ) → from < length links → Tell links (ReachesBy links 0 from) (set (replicate (length links) false) from true)
first_end links from l = record {
  all = length-set (replicate (length links) false) from true ∙ length-replicate (length links) false;
  each = λ i there. (
    λ on. elim (written_cases (replicate (length links) false) from i true true on) [
      | inl (q, r) ↦ ([], refl, sym q)
      | inr (q, r) ↦ absurd (all_off (length links) i r)
    ],
    λ by. subst (IsOn (set (replicate (length links) false) from true)) (by_none links from i by)
        (written (replicate (length links) false) from true (let n = length-replicate (length links) false in omega arith)),
  );
}

pub more_ends : (links : List (Vec (Option ℕ))) (n from : ℕ) (f g : List Bool) → Tell links (ReachesBy links n from) f → Tell links (IsReferredTo links f) g → Tell links (ReachesBy links (n + 1) from) g
more_ends links n from f g a b = record {
  all = b.all;
  each = λ k there. (
    λ on.
        let (j, on_j, refers) = (b.each k there).0 on in
        let l : j < length links = let t = slice_get_within f j true on_j in let u = a.all in omega arith in
        by_one_more links n from j k ((a.each j l).0 on_j) refers,
    λ by.
        let (j, before, refers) = by_one_less links n from k by in
        let l = stands_within links j refers.0 (Some k) refers.1 in
        (b.each k there).1 (j, (a.each j l).1 before, refers),
  );
}

-- ---- one structure more

pub referred_more : (links : List (Vec (Option ℕ))) (flags f g : List Bool) (n : ℕ) → ((j : ℕ) → IsOn f j ↔ IsReferredToBelow links flags n j) → IsOn flags n
    → ((j : ℕ) → IsOn g j ↔ (IsOn f j ⊎ IsNamed (named_in links n) j)) → (j : ℕ) → IsOn g j ↔ IsReferredToBelow links flags (n + 1) j
referred_more links flags f g n so_far here new j = (
  λ on. elim ((new j).0 on) [
    | inl old ↦ let (i, l, o, r) = (so_far j).0 old in (i, omega arith, o, r)
    | inr named ↦ (n, omega arith, here, named)
  ],
  λ (i, l, o, r). elim (cases_eq i n) [
    | inl q ↦ (new j).1 (inr (subst (λ x. Refers links x j) q r))
    | inr q ↦ (new j).1 (inl ((so_far j).1 (i, omega arith, o, r)))
  ],
)

pub referred_skip : (links : List (Vec (Option ℕ))) (flags f : List Bool) (n : ℕ) → ((j : ℕ) → IsOn f j ↔ IsReferredToBelow links flags n j) → (IsOn flags n → ⊥)
    → (j : ℕ) → IsOn f j ↔ IsReferredToBelow links flags (n + 1) j
referred_skip links flags f n so_far not_here j = (
  λ on. let (i, l, o, r) = (so_far j).0 on in (i, omega arith, o, r),
  λ (i, l, o, r). elim (cases_eq i n) [
    | inl q ↦ absurd (not_here (subst (IsOn flags) q o))
    | inr q ↦ (so_far j).1 (i, omega arith, o, r)
  ],
)

pub referred_all : (links : List (Vec (Option ℕ))) (flags g : List Bool) (n : ℕ) → length links ≡ n → length g ≡ length links
    → ((j : ℕ) → IsOn g j ↔ IsReferredToBelow links flags n j) → Tell links (IsReferredTo links flags) g
referred_all links flags g n e all so_far = record {
  all = all;
  each = λ j there. (
    λ on. let (i, l, o, r) = (so_far j).0 on in (i, o, r),
    λ (i, o, r). (so_far j).1 (i, (let t = stands_within links i r.0 (Some j) r.1 in omega arith), o, r),
  );
}

-- ---- the first behind a path of 64

pub deep_from_flags : (links : List (Vec (Option ℕ))) (primary : ℕ) (flags : List Bool) → Tell links (ReachesBy links 64 primary) flags → (r : Reference) → StandsIn links flags r → IsTooDeep links primary r
deep_from_flags links primary flags t r ((named, e), on) =
    let l = stands_within links r.structure r.place named e in ((named, e), (t.each r.structure l).0 on)

pub flags_from_deep : (links : List (Vec (Option ℕ))) (primary : ℕ) (flags : List Bool) → Tell links (ReachesBy links 64 primary) flags → (r : Reference) → IsTooDeep links primary r → StandsIn links flags r
flags_from_deep links primary flags t r ((named, e), by) =
    let l = stands_within links r.structure r.place named e in ((named, e), (t.each r.structure l).1 by)

pub none_referred : (links : List (Vec (Option ℕ))) (flags next : List Bool) → next ≡ replicate (length links) false
    → (length next ≡ length links) × ((j : ℕ) → IsOn next j ↔ IsReferredToBelow links flags 0 j)
none_referred links flags next e = (
  ap length e ∙ length-replicate (length links) false,
  λ j. (λ on. absurd (all_off (length links) j (subst (λ xs. IsOn xs j) e on)), λ (i, l, o, r). absurd (omega arith)),
)
