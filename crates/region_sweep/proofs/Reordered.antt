-- Flips in another order: they change each column as often, and a sort makes them rise.
use Rattle.std.proofs.Common.{◌≡◌, Bool, true, false, ◌&&◌, cond, ℕ, suc, ◌+◌, ℤ, ◌<ℤ◌, ◌≤ℤ◌, int_le, List, [], ◌∷◌, get_or, refl, sym, ap, ◌∙◌, arith}
use Rattle.std.proofs.lemmas.Cmp.{int_cmp_total, on_total, then_total}
use Rattle.std.proofs.lemmas.Int.{ints, by_lt_z}
use Rattle.std.proofs.lemmas.List.Elements.{recursion_from_All}
use Rattle.std.proofs.lemmas.List.Sorted.{ranks_by, sorted_far, sum_by-IsPermutation}
use Rattle.std.proofs.lemmas.List.Sums.{sum_by-cons}
use Rattle.std.specs.List.{AllPairs, sum_by}
use Rattle.std.specs.List.Sorted.{IsPermutation, IsSortedByKey}
use Rattle.std.specs.Ordering.{int_cmp, is_lt, ordering_then}
use Rattle.list_facts.proofs.Members.{all_permuted}
use Rattle.region_form.specs.declared.flip.Flip.{Flip}
use Rattle.region_form.specs.Flips.{changes}
use Rattle.region_sweep.specs.Counts.{AreWide, Rise, times, times_up_to}

-- ---- A sort makes flips rise

rise_from_pairs : (fs : List Flip) → AllPairs (λ f g. f.y ≤ℤ g.y) fs → Rise fs
rise_from_pairs [] h = tt
rise_from_pairs (f ∷ fs) h = (
  recursion_from_All (λ g. f.y ≤ℤ g.y) fs (λ k d lt. h 0 (suc k) d (omega arith) (omega arith)),
  rise_from_pairs fs (λ i j d lt less. h (suc i) (suc j) d (omega arith) (omega arith)),
)

not_first : (y0 x0 y1 x1 : ℤ) → is_lt (ordering_then (int_cmp y1 y0) (int_cmp x1 x0)) ≡ false → y0 ≤ℤ y1
not_first y0 x0 y1 x1 h = by_lt_z y1 y0 (λ l. absurd (grind (arith, ints))) (λ l. l)

pub rise_from_sort : (fs : List Flip) → IsSortedByKey {K = ℤ × ℤ} (λ f. (f.y, f.x0)) (λ a b. ordering_then (int_cmp a.0 b.0) (int_cmp a.1 b.1)) fs → Rise fs
rise_from_sort fs up =
    rise_from_pairs fs (λ i j d lt less.
    let a = get_or fs i d in
    let b = get_or fs j d in
    not_first a.y a.x0 b.y b.x0
    (sorted_far (λ (a : Flip) (b : Flip). is_lt (ordering_then (int_cmp a.y b.y) (int_cmp a.x0 b.x0)))
    (ranks_by (then_total (on_total (λ (t : ℤ × ℤ). t.0) int_cmp_total) (on_total (λ (t : ℤ × ℤ). t.1) int_cmp_total)) (λ (f : Flip). (f.y, f.x0)))
    fs up i j d (omega arith) less))

-- ---- Counts of moved lists

as_sum : (b : Bool) (n : ℕ) → cond b (n + 1) n ≡ cond b 1 0 + n
as_sum true n = omega arith
as_sum false n = omega arith

times_sum : (fs : List Flip) (x : ℤ) → times fs x ≡ sum_by (λ f. cond (changes f x) 1 0) fs
times_sum [] x = refl
times_sum (f ∷ fs) x =
    ap (λ n. cond (changes f x) (n + 1) n) (times_sum fs x)
    ∙ (as_sum (changes f x) (sum_by (λ f. cond (changes f x) 1 0) fs) ∙ sym (sum_by-cons (λ f. cond (changes f x) 1 0) f fs))

up_to_sum : (fs : List Flip) (x y : ℤ) → times_up_to fs x y ≡ sum_by (λ f. cond (int_le f.y y && changes f x) 1 0) fs
up_to_sum [] x y = refl
up_to_sum (f ∷ fs) x y =
    ap (λ n. cond (int_le f.y y && changes f x) (n + 1) n) (up_to_sum fs x y)
    ∙ (as_sum (int_le f.y y && changes f x) (sum_by (λ f. cond (int_le f.y y && changes f x) 1 0) fs) ∙ sym (sum_by-cons (λ f. cond (int_le f.y y && changes f x) 1 0) f fs))

pub times_moved : (fs gs : List Flip) (x : ℤ) → IsPermutation fs gs → times gs x ≡ times fs x
times_moved fs gs x p = times_sum gs x ∙ (sum_by-IsPermutation (λ f. cond (changes f x) 1 0) fs gs p ∙ sym (times_sum fs x))

pub up_to_moved : (fs gs : List Flip) (x y : ℤ) → IsPermutation fs gs → times_up_to gs x y ≡ times_up_to fs x y
up_to_moved fs gs x y p = up_to_sum gs x y ∙ (sum_by-IsPermutation (λ f. cond (int_le f.y y && changes f x) 1 0) fs gs p ∙ sym (up_to_sum fs x y))

pub wide_moved : (fs gs : List Flip) → IsPermutation fs gs → AreWide fs → AreWide gs
wide_moved fs gs p a = all_permuted (λ (f : Flip). f.x0 <ℤ f.x1) fs gs p a
