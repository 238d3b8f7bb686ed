-- Counts of flips: of lists that are joined, and of those up to a row.
use Rattle.std.proofs.Common.{◌≡◌, Bool, true, false, ◌&&◌, cond, ℕ, zero, suc, ◌+◌, ℤ, ◌<ℤ◌, ◌≤ℤ◌, int_le, int_lt, List, [], ◌∷◌, ◌++◌, refl, ap, ◌∙◌, arith}
use Rattle.std.proofs.lemmas.Int.{ints}
use Rattle.std.specs.List.{AllByRecursion}
use Rattle.list_facts.proofs.Members.{all_weaker}
use Rattle.list_facts.proofs.Tests.{and_known, le_false, le_true, lt_from_true, lt_true}
use Rattle.region_form.specs.declared.flip.Flip.{Flip}
use Rattle.region_form.specs.Flips.{changes}
use Rattle.chunked_list.specs.Stretches.{IsMonotone}
use Rattle.region_sweep.specs.Counts.{times, times_up_to, Rise}
use Rattle.region_sweep.specs.Working.Sweeps.{repeated}

module _ {V : Type 0} (makes : V → V) where
  -- the first flip's change is made first
  pub repeated_more : (b : Bool) (n : ℕ) (v : V) → repeated makes (cond b (n + 1) n) v ≡ repeated makes n (cond b (makes v) v)
  repeated_more true n v = let e : n + 1 ≡ suc n = omega arith in ap (λ k. repeated makes k v) e
  repeated_more false n v = refl

  -- a change that counts one more, made n times
  pub repeated_counts : (at : ℕ → V) → ((a : ℕ) → makes (at a) ≡ at (a + 1)) → (n a : ℕ) → repeated makes n (at a) ≡ at (a + n)
  repeated_counts at step zero a = let e : a ≡ a + 0 = omega arith in ap at e
  repeated_counts at step (suc n) a =
      let e : (a + 1) + n ≡ a + suc n = omega arith in
      ap (repeated makes n) (step a) ∙ (repeated_counts at step n (a + 1) ∙ ap at e)

one_more : (b : Bool) (n m : ℕ) → cond b ((n + m) + 1) (n + m) ≡ cond b (n + 1) n + m
one_more true n m = omega arith
one_more false n m = refl

pub times_join : (xs ys : List Flip) (x : ℤ) → times (xs ++ ys) x ≡ times xs x + times ys x
times_join [] ys x = omega arith
times_join (f ∷ xs) ys x =
    ap (λ n. cond (changes f x) (n + 1) n) (times_join xs ys x) ∙ one_more (changes f x) (times xs x) (times ys x)

pub up_to_join : (xs ys : List Flip) (x y : ℤ) → times_up_to (xs ++ ys) x y ≡ times_up_to xs x y + times_up_to ys x y
up_to_join [] ys x y = omega arith
up_to_join (f ∷ xs) ys x y =
    ap (λ n. cond (int_le f.y y && changes f x) (n + 1) n) (up_to_join xs ys x y) ∙ one_more (int_le f.y y && changes f x) (times_up_to xs x y) (times_up_to ys x y)

-- flips at or below the row all count
pub up_to_all : (fs : List Flip) (x y : ℤ) → AllByRecursion (λ f. f.y ≤ℤ y) fs → times_up_to fs x y ≡ times fs x
up_to_all [] x y a = refl
up_to_all (f ∷ fs) x y a =
    ap (λ b. cond b (times_up_to fs x y + 1) (times_up_to fs x y)) (and_known (int_le f.y y) (changes f x) (le_true f.y y a.0))
    ∙ ap (λ n. cond (changes f x) (n + 1) n) (up_to_all fs x y a.1)

-- flips above the row don't
pub up_to_none : (fs : List Flip) (x y : ℤ) → AllByRecursion (λ f. y <ℤ f.y) fs → times_up_to fs x y ≡ 0
up_to_none [] x y a = refl
up_to_none (f ∷ fs) x y a =
    ap (λ b. cond (b && changes f x) (times_up_to fs x y + 1) (times_up_to fs x y)) (le_false f.y y a.0) ∙ up_to_none fs x y a.1

pub rise_right : (xs ys : List Flip) → Rise (xs ++ ys) → Rise ys
rise_right [] ys r = r
rise_right (f ∷ xs) ys r = rise_right xs ys r.1

pub rise_monotone : (line : ℤ) (fs : List Flip) → Rise fs → IsMonotone (λ (f : Flip). int_lt line f.y) fs
rise_monotone line [] r = tt
rise_monotone line (f ∷ fs) r = (
  λ t.
      let l : line <ℤ f.y = lt_from_true line f.y t in
      all_weaker (λ g. f.y ≤ℤ g.y) (λ g. int_lt line g.y ≡ true) (λ g k. lt_true line g.y (omega (arith, ints))) fs r.0,
  rise_monotone line fs r.1,
)
