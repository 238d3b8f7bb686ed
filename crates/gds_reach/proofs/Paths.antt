-- Paths of references.
use Rattle.std.proofs.Common.{◌≡◌, ℕ, zero, suc, ◌+◌, ◌<◌, Bool, List, [], ◌∷◌, ◌++◌, length, Option, Some, refl, sym, ap, subst, ◌∙◌, arith}
use Rattle.std.specs.Prelude.{slice_get, slice_index_or}
use Rattle.std.specs.Global.{Vec}
use Rattle.gds_reach.specs.declared.reference.Reference.{Reference}
use Rattle.gds_reach.specs.References.{IsClosed, IsOn, IsPath, Reaches, Refers, named_in}
use Rattle.gds_reach.specs.Facts.{ReachesBy}
use Rattle.list_facts.proofs.Slots.{longer}

pub named_here : (links : List (Vec (Option ℕ))) (i : ℕ) (d : Vec (Option ℕ)) → i < length links → named_in links i ≡ (slice_index_or links i d).items
named_here [] i d l = absurd (omega arith)
named_here (v ∷ vs) zero d l = refl
named_here (v ∷ vs) (suc i) d l = named_here vs i d (omega arith)

pub then_path : (links : List (Vec (Option ℕ))) (i j k : ℕ) (path more : List Reference) → IsPath links i path j → IsPath links j more k → IsPath links i (path ++ more) k
then_path links i j k [] more p q = subst (λ x. IsPath links x more k) (sym p) q
then_path links i j k (r ∷ path) more (s, m, n, p) q = (s, m, n, then_path links m j k path more p q)

-- one more reference
abbrev pub reference_at : ℕ → ℕ → Reference
reference_at structure place = record { structure = structure; place = place }

pub one_more : (links : List (Vec (Option ℕ))) (i j k : ℕ) → Reaches links i j → Refers links j k → Reaches links i k
one_more links i j k (path, p) (place, n) = (path ++ reference_at j place ∷ [], then_path links i j k path (reference_at j place ∷ []) p (refl, k, n, refl))

pub reaches_itself : (links : List (Vec (Option ℕ))) (i : ℕ) → Reaches links i i
reaches_itself links i = ([], refl)

pub then_reaches : (links : List (Vec (Option ℕ))) (i j k : ℕ) → Reaches links i j → Reaches links j k → Reaches links i k
then_reaches links i j k (path, p) (more, q) = (path ++ more, then_path links i j k path more p q)

-- where flags are closed, what a flagged structure reaches is flagged
pub kept_on : (links : List (Vec (Option ℕ))) (flags : List Bool) → IsClosed links flags → (i j : ℕ) (path : List Reference) → IsOn flags i → IsPath links i path j → IsOn flags j
kept_on links flags closed i j [] on p = subst (IsOn flags) p on
kept_on links flags closed i j (r ∷ path) on (s, k, n, p) =
    kept_on links flags closed k j path (closed i k on (r.place, ap (λ x. slice_get (named_in links x) r.place) (sym s) ∙ n)) p

-- a reference stands in one of the structures
pub stands_within : (links : List (Vec (Option ℕ))) (i place : ℕ) (x : Option ℕ) → slice_get (named_in links i) place ≡ Some x → i < length links
stands_within [] i place x e = absurd (cc)
stands_within (v ∷ vs) zero place x e = omega arith
stands_within (v ∷ vs) (suc i) place x e = let l = stands_within vs i place x e in omega arith

-- the last reference of a path
pub last_of : (links : List (Vec (Option ℕ))) (i j : ℕ) (r : Reference) (path : List Reference) → IsPath links i (r ∷ path) j
    → (k : ℕ) × (before : List Reference) × (length before ≡ length path) × IsPath links i before k × Refers links k j
last_of links i j r [] (s, m, n, p) =
    (i, [], refl, refl, (r.place, ap (λ x. slice_get (named_in links x) r.place) (sym s) ∙ (n ∙ ap (λ x. Some (Some x)) p)))
last_of links i j r (q ∷ path) (s, m, n, p) =
    let (k, before, l, b, last) = last_of links m j q path p in
    (k, r ∷ before, (let t : suc (length before) ≡ suc (length path) = omega arith in t), (s, m, n, b), last)

-- paths of one reference more
pub by_one_more : (links : List (Vec (Option ℕ))) (n i j k : ℕ) → ReachesBy links n i j → Refers links j k → ReachesBy links (n + 1) i k
by_one_more links n i j k (path, l, p) (place, e) =
    (path ++ reference_at j place ∷ [], (let t = longer path (reference_at j place) in omega arith), then_path links i j k path (reference_at j place ∷ []) p (refl, k, e, refl))

pub by_one_less : (links : List (Vec (Option ℕ))) (n i k : ℕ) → ReachesBy links (n + 1) i k → (j : ℕ) × ReachesBy links n i j × Refers links j k
by_one_less links n i k ([], l, p) = absurd (omega arith)
by_one_less links n i k (r ∷ path, l, p) =
    let (j, before, m, b, last) = last_of links i k r path p in
    (j, (before, (let t : length before ≡ n = omega arith in t), b), last)

pub by_none : (links : List (Vec (Option ℕ))) (i j : ℕ) → ReachesBy links 0 i j → i ≡ j
by_none links i j ([], l, p) = p
by_none links i j (r ∷ path, l, p) = absurd (omega arith)

-- what references turned round reach
pub turned_path : (links turned : List (Vec (Option ℕ))) → ((i j : ℕ) → Refers links i j → Refers turned j i) → (i j : ℕ) (path : List Reference) → IsPath links i path j → Reaches turned j i
turned_path links turned turns i j [] p = ([], sym p)
turned_path links turned turns i j (r ∷ path) (s, k, n, p) =
    one_more turned j k i (turned_path links turned turns k j path p) (turns i k (r.place, ap (λ x. slice_get (named_in links x) r.place) (sym s) ∙ n))
