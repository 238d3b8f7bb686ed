-- What lies between two numbers, or two points, lies so also when all are reflected, magnified, turned and moved.
use Rattle.std.proofs.Common.{◌≡◌, ◌⊎◌, ℕ, zero, suc, ◌+◌, ◌≤◌, ◌^◌, Bool, true, false, nat_le, IsTrue, ℤ, pos, negsuc, neg_ℤ, ◌+ℤ◌, ◌*ℤ◌, ◌≤ℤ◌, unsigned_abs, ◌-◌, subst, inl, inr, arith}
use Rattle.std.proofs.lemmas.Int.{ints}
use Rattle.std.proofs.lemmas.Bool.{and_from, and_parts}
use Rattle.std.proofs.lemmas.Bool.Decides.{nat_tests}
use Rattle.std.proofs.Math.IntN.{zero-*ℤ, *ℤ-zero}
use Rattle.drc_geom.specs.declared.point.Pt.{Pt}
use Rattle.drc_geom.specs.Turns.{mirrored, turned}
use Rattle.gds_placing.specs.declared.place.Placement.{Placement}
use Rattle.gds_placing.proofs.Linear.{more, product_more}
use Rattle.gds_placing.specs.Places.{magnified, moved, place_of, is_reached}

pub Among : (a b z : ℤ) → Type 0
Among a b z = ((a ≤ℤ z) × (z ≤ℤ b)) ⊎ ((b ≤ℤ z) × (z ≤ℤ a))

neg_le : (a b : ℤ) → a ≤ℤ b → neg_ℤ b ≤ℤ neg_ℤ a
neg_le a b h = omega (arith, ints)

sum_le : (by a b : ℤ) → a ≤ℤ b → (by +ℤ a) ≤ℤ (by +ℤ b)
sum_le by a b h = omega (arith, ints)

product_le : (k : ℕ) (a b : ℤ) → a ≤ℤ b → (pos k *ℤ a) ≤ℤ (pos k *ℤ b)
product_le zero a b h =
    let e = zero-*ℤ a in
    let f = zero-*ℤ b in
    omega (arith, ints)
product_le (suc k) a b h =
    let e = more k a in
    let f = more k b in
    let l = product_le k a b h in
    omega (arith, ints)

among_neg : (a b z : ℤ) → Among a b z → Among (neg_ℤ a) (neg_ℤ b) (neg_ℤ z)
unfolding Among
among_neg a b z h =
    elim h [ inl w ↦ inr (neg_le z b w.1, neg_le a z w.0) | inr w ↦ inl (neg_le z a w.1, neg_le b z w.0) ]

among_sum : (by a b z : ℤ) → Among a b z → Among (by +ℤ a) (by +ℤ b) (by +ℤ z)
unfolding Among
among_sum by a b z h =
    elim h [ inl w ↦ inl (sum_le by a z w.0, sum_le by z b w.1) | inr w ↦ inr (sum_le by b z w.0, sum_le by z a w.1) ]

sum_le_right : (by a b : ℤ) → a ≤ℤ b → (a +ℤ by) ≤ℤ (b +ℤ by)
sum_le_right by a b h = omega (arith, ints)

pub among_sum_right : (by a b z : ℤ) → Among a b z → Among (a +ℤ by) (b +ℤ by) (z +ℤ by)
unfolding Among
among_sum_right by a b z h =
    elim h [
      | inl w ↦ inl (sum_le_right by a z w.0, sum_le_right by z b w.1)
      | inr w ↦ inr
          (sum_le_right by b z w.0, sum_le_right by z a w.1)
    ]

among_product : (k : ℕ) (a b z : ℤ) → Among a b z → Among (pos k *ℤ a) (pos k *ℤ b) (pos k *ℤ z)
unfolding Among
among_product k a b z h =
    elim h [
      | inl w ↦ inl (product_le k a z w.0, product_le k z b w.1)
      | inr w ↦ inr
          (product_le k b z w.0, product_le k z a w.1)
    ]

-- so many times a number is among none and more of them
among_more : (k j : ℕ) (z : ℤ) → Among (pos 0 *ℤ z) (pos (k + j) *ℤ z) (pos k *ℤ z)
unfolding Among
among_more k j (pos m) =
    let none = zero-*ℤ (pos m) in
    let all = product_more k j (pos m) in
    let zero_k = *ℤ-zero (pos k) in
    let zero_j = *ℤ-zero (pos j) in
    let some = product_le k (pos 0) (pos m) (omega (arith, ints)) in
    let more = product_le j (pos 0) (pos m) (omega (arith, ints)) in
    inl (omega (arith, ints), omega (arith, ints))
among_more k j (negsuc m) =
    let none = zero-*ℤ (negsuc m) in
    let all = product_more k j (negsuc m) in
    let zero_k = *ℤ-zero (pos k) in
    let zero_j = *ℤ-zero (pos j) in
    let some = product_le k (negsuc m) (pos 0) (omega (arith, ints)) in
    let more = product_le j (negsuc m) (pos 0) (omega (arith, ints)) in
    inr (omega (arith, ints), omega (arith, ints))

pub among_times : (k n : ℕ) (z : ℤ) → k ≤ n → Among (pos 0 *ℤ z) (pos n *ℤ z) (pos k *ℤ z)
among_times k n z h =
    let e : k + (n - k) ≡ n = omega arith in
    subst (λ m. Among (pos 0 *ℤ z) (pos m *ℤ z) (pos k *ℤ z)) e (among_more k (n - k) z)

pub near_among : (bound : ℕ) (a b z : ℤ) → Among a b z → unsigned_abs a ≤ bound → unsigned_abs b ≤ bound
    → unsigned_abs z ≤ bound
unfolding Among
near_among bound a b z h p q = elim h [ inl w ↦ omega (arith, ints) | inr w ↦ omega (arith, ints) ]

-- ---- Points

pub record IsBetween (a b p : Pt) : Type 0 where
  pub x : Among a.x b.x p.x
  pub y : Among a.y b.y p.y

between_mirrored : (m : Bool) (a b p : Pt) → IsBetween a b p → IsBetween (mirrored m a) (mirrored m b) (mirrored m p)
between_mirrored true a b p h = record { x = h.x; y = among_neg a.y b.y p.y h.y }
between_mirrored false a b p h = h

between_magnified : (k : ℕ) (a b p : Pt) → IsBetween a b p → IsBetween (magnified k a) (magnified k b) (magnified k p)
between_magnified k a b p h = record { x = among_product k a.x b.x p.x h.x; y = among_product k a.y b.y p.y h.y }

between_turned : (n : ℕ) (a b p : Pt) → IsBetween a b p → IsBetween (turned n a) (turned n b) (turned n p)
between_turned zero a b p h = h
between_turned (suc n) a b p h =
    between_turned n (record { x = neg_ℤ a.y; y = a.x }) (record { x = neg_ℤ b.y; y = b.x })
    (record { x = neg_ℤ p.y; y = p.x })
    (record { x = among_neg a.y b.y p.y h.y; y = h.x })

pub between_moved : (by a b p : Pt) → IsBetween a b p → IsBetween (moved by a) (moved by b) (moved by p)
between_moved by a b p h = record { x = among_sum by.x a.x b.x p.x h.x; y = among_sum by.y a.y b.y p.y h.y }

between_placed : (place : Placement) (a b p : Pt) → IsBetween a b p
    → IsBetween (place_of place a) (place_of place b) (place_of place p)
between_placed place a b p h =
    between_moved place.origin _ _ _
    (between_turned place.turn.quarter _ _ _
    (between_magnified place.magnification _ _ _ (between_mirrored place.turn.mirror a b p h)))

near_from_test : (z : ℤ) → nat_le (unsigned_abs z) (2 ^ 30) ≡ true → unsigned_abs z ≤ 1073741824
near_from_test z e = grind (arith, nat_tests)

test_from_near : (z : ℤ) → unsigned_abs z ≤ 1073741824 → nat_le (unsigned_abs z) (2 ^ 30) ≡ true
test_from_near z e = grind (arith, nat_tests)

within_reach : (a b z : ℤ) → Among a b z → nat_le (unsigned_abs a) (2 ^ 30) ≡ true
    → nat_le (unsigned_abs b) (2 ^ 30) ≡ true
    → nat_le (unsigned_abs z) (2 ^ 30) ≡ true
within_reach a b z h p q = test_from_near z (near_among 1073741824 a b z h (near_from_test a p) (near_from_test b q))

reached_between : (a b p : Pt) → IsBetween a b p → IsTrue (is_reached a) → IsTrue (is_reached b) → IsTrue (is_reached p)
reached_between a b p h s t =
    let at_a = and_parts _ _ s in
    let at_b = and_parts _ _ t in
    and_from _ _ (within_reach a.x b.x p.x h.x at_a.0 at_b.0) (within_reach a.y b.y p.y h.y at_a.1 at_b.1)

-- what is between two points that are drawn within reach is drawn within reach
pub drawn_between : (place : Placement) (a b p : Pt) → IsBetween a b p
    → IsTrue (is_reached (place_of place a)) → IsTrue (is_reached (place_of place b))
    → IsTrue (is_reached (place_of place p))
drawn_between place a b p h s t =
    reached_between (place_of place a) (place_of place b) (place_of place p) (between_placed place a b p h) s t

-- so many times a number is as near as more times it
pub product_near : (bound k n : ℕ) (z : ℤ) → k ≤ n → unsigned_abs (pos n *ℤ z) ≤ bound
    → unsigned_abs (pos k *ℤ z) ≤ bound
product_near bound k n z h near =
    let none = zero-*ℤ z in
    near_among bound (pos 0 *ℤ z) (pos n *ℤ z) (pos k *ℤ z) (among_times k n z h) (omega (arith, ints)) near
