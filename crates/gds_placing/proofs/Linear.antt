-- Reflecting, turning and magnifying, one before another, and what is moved.
use Rattle.std.proofs.Common.{◌≡◌, ℕ, zero, suc, ◌+◌, ◌*◌, Bool, true, false, ℤ, pos, neg_ℤ, ◌+ℤ◌, ◌*ℤ◌, refl, sym, ap, ◌∙◌, arith}
use Rattle.std.proofs.lemmas.Int.{ints}
use Rattle.std.proofs.Math.IntN.{neg_ℤ-+ℤ, +ℤ_assoc, suc_ℤ-*ℤ, zero-*ℤ}
use Rattle.drc_geom.specs.declared.point.Pt.{Pt}
use Rattle.drc_geom.specs.Turns.{mirrored, turned}
use Rattle.gds_placing.specs.Places.{magnified, moved}

-- once more
pub more : (k : ℕ) (z : ℤ) → pos (suc k) *ℤ z ≡ (pos k *ℤ z) +ℤ z
more k z = suc_ℤ-*ℤ (pos k) z

none : (z : ℤ) → pos 0 *ℤ z ≡ pos 0
none z = zero-*ℤ z

neg_product : (k : ℕ) (z : ℤ) → pos k *ℤ neg_ℤ z ≡ neg_ℤ (pos k *ℤ z)
neg_product zero z = none (neg_ℤ z) ∙ ap neg_ℤ (sym (none z))
neg_product (suc k) z =
    let e = more k (neg_ℤ z) in
    let f = more k z in
    let h = neg_product k z in
    omega (arith, ints)

product_sum : (k : ℕ) (a b : ℤ) → pos k *ℤ (a +ℤ b) ≡ (pos k *ℤ a) +ℤ (pos k *ℤ b)
product_sum zero a b =
    let e = none (a +ℤ b) in
    let f = none a in
    let g = none b in
    omega (arith, ints)
product_sum (suc k) a b =
    let e = more k (a +ℤ b) in
    let f = more k a in
    let g = more k b in
    let h = product_sum k a b in
    omega (arith, ints)

-- so many times and so many times more
pub product_more : (k j : ℕ) (z : ℤ) → pos (k + j) *ℤ z ≡ (pos k *ℤ z) +ℤ (pos j *ℤ z)
product_more k zero z =
    let e = none z in
    let n : k + 0 ≡ k = omega arith in
    ap (λ m. pos m *ℤ z) n ∙ omega (arith, ints)
product_more k (suc j) z =
    let e = more (k + j) z in
    let f = more j z in
    let h = product_more k j z in
    let n : k + suc j ≡ suc (k + j) = omega arith in
    ap (λ m. pos m *ℤ z) n ∙ omega (arith, ints)

product_twice : (k j : ℕ) (z : ℤ) → pos k *ℤ (pos j *ℤ z) ≡ pos (j * k) *ℤ z
product_twice zero j z =
    let n : 0 ≡ j * 0 = omega arith in
    none (pos j *ℤ z) ∙ sym (none z) ∙ ap (λ m. pos m *ℤ z) n
product_twice (suc k) j z =
    let n : j * k + j ≡ j * suc k = omega arith in
    more k (pos j *ℤ z) ∙ ap (λ w. w +ℤ (pos j *ℤ z)) (product_twice k j z) ∙ sym (product_more (j * k) j z)
    ∙ ap (λ m. pos m *ℤ z) n

-- ---- Moved

pub mirrored-moved : (b : Bool) (by p : Pt) → mirrored b (moved by p) ≡ moved (mirrored b by) (mirrored b p)
mirrored-moved true by p = λ i. record { x = by.x +ℤ p.x; y = neg_ℤ-+ℤ by.y p.y i }
mirrored-moved false by p = refl

pub turned-moved : (n : ℕ) (by p : Pt) → turned n (moved by p) ≡ moved (turned n by) (turned n p)
turned-moved zero by p = refl
turned-moved (suc n) by p =
    (λ i. turned n (record { x = neg_ℤ-+ℤ by.y p.y i; y = by.x +ℤ p.x }))
    ∙ turned-moved n (record { x = neg_ℤ by.y; y = by.x }) (record { x = neg_ℤ p.y; y = p.x })

pub magnified-moved : (k : ℕ) (by p : Pt) → magnified k (moved by p) ≡ moved (magnified k by) (magnified k p)
magnified-moved k by p = λ i. record { x = product_sum k by.x p.x i; y = product_sum k by.y p.y i }

pub moved-moved : (a b p : Pt) → moved a (moved b p) ≡ moved (moved a b) p
moved-moved a b p = λ i. record { x = sym (+ℤ_assoc a.x b.x p.x) i; y = sym (+ℤ_assoc a.y b.y p.y) i }

-- ---- Magnified

pub mirrored-magnified : (b : Bool) (k : ℕ) (p : Pt) → mirrored b (magnified k p) ≡ magnified k (mirrored b p)
mirrored-magnified true k p = λ i. record { x = pos k *ℤ p.x; y = sym (neg_product k p.y) i }
mirrored-magnified false k p = refl

pub turned-magnified : (n k : ℕ) (p : Pt) → turned n (magnified k p) ≡ magnified k (turned n p)
turned-magnified zero k p = refl
turned-magnified (suc n) k p =
    (λ i. turned n (record { x = sym (neg_product k p.y) i; y = pos k *ℤ p.x }))
    ∙ turned-magnified n k (record { x = neg_ℤ p.y; y = p.x })

pub magnified-magnified : (k j : ℕ) (p : Pt) → magnified k (magnified j p) ≡ magnified (j * k) p
magnified-magnified k j p = λ i. record { x = product_twice k j p.x i; y = product_twice k j p.y i }
