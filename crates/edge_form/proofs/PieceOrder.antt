-- The order of pieces by side, line and first column, as facts on numbers.
use Rattle.std.proofs.Common.{◌≡◌, ℕ, suc, ◌+◌, ◌<◌, ◌⊎◌, inl, inr, false, ℤ, ◌<ℤ◌, ◌≤ℤ◌, List, [], ◌∷◌, get_or, sym, subst, arith}
use Rattle.std.proofs.lemmas.Int.{ints}
use Rattle.std.specs.Cmp.{IsTotalOrder, then_total, on_total, nat_cmp_total, int_cmp_total, ranks, int_ranks}
use Rattle.std.specs.List.Sorted.{IsSorted}
use Rattle.std.specs.Ordering.{is_lt, nat_cmp, int_cmp, ordering_then, MatchOrdering}
use Rattle.std.specs.declared.cmp.Ordering.{Ordering}
use Rattle.std.specs.declared.cmp.Ordering.TheVariants.{Less, Equal, Greater}
use mathlib.Core.Bool.{true≢false}
use Rattle.drc_geom.specs.declared.run.Run.{Run}
use Rattle.drc_geom.specs.Runs.{IsRun, side_rank}
use Rattle.edge_form.specs.Working.Gathering.{place_order, IsSpaced}

pub place_order_total : IsTotalOrder place_order
place_order_total =
    then_total (on_total (λ r. side_rank r.side) nat_cmp_total)
    (then_total (on_total (λ r. r.line) int_cmp_total) (on_total (λ r. r.lo) int_cmp_total))

-- a lower rank, or a lower line at one rank, or a fact at one rank and line
abbrev pub Lower : ℕ → ℤ → ℕ → ℤ → Type 0 → Type 0
Lower r l s m P = (r < s) ⊎ ((r ≡ s) × ((l <ℤ m) ⊎ ((l ≡ m) × P)))

pub lower_map : (r s : ℕ) (l m : ℤ) (P Q : Type 0) → Lower r l s m P → (r ≡ s → l ≡ m → P → Q) → Lower r l s m Q
lower_map r s l m P Q h f =
    elim h [ inl a ↦ inl a | inr b ↦ inr (b.0, elim b.1 [ inl c ↦ inl c | inr d ↦ inr (d.0, f b.0 d.0 d.1) ]) ]

pub lower_here : (r s : ℕ) (l m : ℤ) (P : Type 0) → Lower r l s m P → r ≡ s → l ≡ m → P
lower_here r s l m P h e f =
    elim h [
      | inl a ↦ absurd (omega arith)
      | inr b ↦ elim b.1 [ inl c ↦ absurd (omega (arith, ints)) | inr d ↦ d.1 ]
    ]

pub lower_trans : (r s t : ℕ) (l m n : ℤ) (P Q R : Type 0) → Lower r l s m P → Lower s m t n Q → (P → Q → R) → Lower r l t n R
lower_trans r s t l m n P Q R h k f =
    elim h [
      | inl a ↦ elim k [ inl x ↦ inl (omega arith) | inr y ↦ let e = y.0 in inl (omega arith) ]
      | inr b ↦
          let e : r ≡ s = b.0 in
          elim k [
            | inl x ↦ inl (omega arith)
            | inr y ↦
                let g : s ≡ t = y.0 in
                inr (
                  omega arith,
                  elim b.1 [
                    | inl c ↦ inl (elim y.1 [ inl u ↦ omega (arith, ints) | inr v ↦ let w : m ≡ n = v.0 in omega (arith, ints) ])
                    | inr d ↦
                        let w : l ≡ m = d.0 in
                        elim y.1 [ inl u ↦ inl (omega (arith, ints)) | inr v ↦ let z : m ≡ n = v.0 in inr (omega (arith, ints), f d.1 v.1) ]
                  ],
                )
          ]
    ]

-- the one stands before the other, or at one place with it
abbrev pub IsNotBehind : Run → Run → Type 0
IsNotBehind a b = Lower (side_rank a.side) a.line (side_rank b.side) b.line (a.lo ≤ℤ b.lo)

pub not_behind_trans : (a b c : Run) → IsNotBehind a b → IsNotBehind b c → IsNotBehind a c
not_behind_trans a b c h k = lower_trans _ _ _ _ _ _ _ _ _ h k (λ p q. omega (arith, ints))

pub spaced_trans : (a b c : Run) → IsRun b → IsSpaced a b → IsSpaced b c → IsSpaced a c
spaced_trans a b c r h k = let f : b.lo <ℤ b.hi = r in lower_trans _ _ _ _ _ _ _ _ _ h k (λ p q. omega (arith, ints))

not_behind_by : (r s : ℕ) (l m a b : ℤ) (p q o : Ordering) → MatchOrdering p (s < r) (s ≡ r) (r < s) → MatchOrdering q (m <ℤ l) (m ≡ l) (l <ℤ m) → MatchOrdering o (b <ℤ a) (b ≡ a) (a <ℤ b) → is_lt (ordering_then p (ordering_then q o)) ≡ false → Lower r l s m (a ≤ℤ b)
not_behind_by r s l m a b Less q o hp hq ho e = absurd (true≢false e)
not_behind_by r s l m a b Greater q o hp hq ho e = inl hp
not_behind_by r s l m a b Equal Less o hp hq ho e = absurd (true≢false e)
not_behind_by r s l m a b Equal Greater o hp hq ho e = inr (sym hp, inl hq)
not_behind_by r s l m a b Equal Equal Less hp hq ho e = absurd (true≢false e)
not_behind_by r s l m a b Equal Equal Equal hp hq ho e = inr (sym hp, inr (sym hq, omega (arith, ints)))
not_behind_by r s l m a b Equal Equal Greater hp hq ho e = inr (sym hp, inr (sym hq, omega (arith, ints)))

-- each piece of the list stands before the next, or at one place with it
abbrev pub AreInOrder : List Run → Type 0
AreInOrder [] = Unit {0}
AreInOrder (a ∷ []) = Unit {0}
AreInOrder (a ∷ b ∷ runs) = IsNotBehind a b × AreInOrder (b ∷ runs)

first_not_behind : (a b : Run) (runs : List Run) → IsSorted place_order (a ∷ b ∷ runs) → IsNotBehind a b
first_not_behind a b runs h =
    not_behind_by _ _ _ _ _ _ (nat_cmp (side_rank b.side) (side_rank a.side)) (int_cmp b.line a.line) (int_cmp b.lo a.lo) (ranks (side_rank b.side) (side_rank a.side)) (int_ranks b.line a.line) (int_ranks b.lo a.lo) (h 0 a (omega arith) (omega arith))

rest_sorted : (a : Run) (runs : List Run) → IsSorted place_order (a ∷ runs) → IsSorted place_order runs
rest_sorted a runs h k d l m =
    let e : suc k + 1 ≡ suc (k + 1) = omega arith in
    subst (λ n. is_lt (place_order (get_or (a ∷ runs) n d) (get_or runs k d)) ≡ false) e (h (suc k) d (omega arith) (omega arith))

pub in_order_from_sorted : (runs : List Run) → IsSorted place_order runs → AreInOrder runs
in_order_from_sorted [] h = tt
in_order_from_sorted (a ∷ []) h = tt
in_order_from_sorted (a ∷ b ∷ runs) h = (first_not_behind a b runs h, in_order_from_sorted (b ∷ runs) (rest_sorted a (b ∷ runs) h))
