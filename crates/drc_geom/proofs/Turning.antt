-- Turns by numbers of quarters: they add up, four of them are none, and a mirroring turns them round.
use Rattle.std.proofs.Common.{◌≡◌, ℕ, zero, suc, ◌+◌, ◌*◌, ◌/◌, ◌%◌, Bool, true, false, not, ℤ, neg_ℤ, refl, sym, ap, ◌∙◌, arith, zero-add}
use Rattle.std.proofs.lemmas.Int.{ints}
use Rattle.std.proofs.Math.IntN.{neg_ℤ-neg_ℤ}
use mathlib.Core.Bool.{beq}
use Rattle.drc_geom.specs.declared.point.Pt.{Pt}
use Rattle.drc_geom.specs.declared.turn.Turn.{Turn}
use Rattle.drc_geom.specs.Turns.{IsCoordinate, IsPlaced, mirrored, turned, apply_of}

pub turned_four : (n : ℕ) (p : Pt) → turned (suc (suc (suc (suc n)))) p ≡ turned n p
turned_four n p = λ i. turned n (record { x = neg_ℤ-neg_ℤ p.x i; y = neg_ℤ-neg_ℤ p.y i })

pub turned-add : (a b : ℕ) (p : Pt) → turned (a + b) p ≡ turned b (turned a p)
turned-add zero b p = ap (λ n. turned n p) (zero-add b)
turned-add (suc a) b p =
    let e : suc a + b ≡ suc (a + b) = omega arith in
    ap (λ n. turned n p) e ∙ turned-add a b (record { x = neg_ℤ p.y; y = p.x })

turned_times : (k r : ℕ) (p : Pt) → turned (4 * k + r) p ≡ turned r p
turned_times zero r p =
    let e : 4 * 0 + r ≡ r = omega arith in
    ap (λ n. turned n p) e
turned_times (suc k) r p =
    let e : 4 * suc k + r ≡ suc (suc (suc (suc (4 * k + r)))) = omega arith in
    ap (λ n. turned n p) e ∙ turned_four (4 * k + r) p ∙ turned_times k r p

pub turned_rem : (q : ℕ) (p : Pt) → turned q p ≡ turned (q % 4) p
turned_rem q p =
    let e : q ≡ 4 * (q / 4) + q % 4 = omega arith in
    ap (λ n. turned n p) e ∙ turned_times (q / 4) (q % 4) p

pub turned_like : (a b : ℕ) (p : Pt) → a % 4 ≡ b % 4 → turned a p ≡ turned b p
turned_like a b p e = turned_rem a p ∙ ap (λ n. turned n p) e ∙ sym (turned_rem b p)

mirrored_quarter : (p : Pt) → mirrored true (record { x = neg_ℤ p.y; y = p.x }) ≡ turned 3 (mirrored true p)
mirrored_quarter p = λ i. record { x = sym (neg_ℤ-neg_ℤ (neg_ℤ p.y)) i; y = neg_ℤ p.x }

-- to turn and then mirror is to mirror and then turn the other way round
pub mirrored_turned : (m : ℕ) (p : Pt) → mirrored true (turned m p) ≡ turned (3 * m) (mirrored true p)
mirrored_turned zero p =
    let e : 0 ≡ 3 * 0 = omega arith in
    ap (λ n. turned n (mirrored true p)) e
mirrored_turned (suc m) p =
    let e : 3 + 3 * m ≡ 3 * suc m = omega arith in
    mirrored_turned m (record { x = neg_ℤ p.y; y = p.x }) ∙ ap (turned (3 * m)) (mirrored_quarter p)
    ∙ sym (turned-add 3 (3 * m) (mirrored true p)) ∙ ap (λ n. turned n (mirrored true p)) e

pub mirrored_both : (a b : Bool) (p : Pt) → mirrored b (mirrored a p) ≡ mirrored (not (beq a b)) p
mirrored_both true true p = λ i. record { x = p.x; y = neg_ℤ-neg_ℤ p.y i }
mirrored_both true false p = refl
mirrored_both false true p = refl
mirrored_both false false p = refl

-- one turn after another, where the second mirrors, and where it does not
pub then_mirrored : (a b : Bool) (m n q : ℕ) → b ≡ true → q % 4 ≡ (3 * m + n) % 4 → (p : Pt) → turned q (mirrored (not (beq a b)) p) ≡ turned n (mirrored b (turned m (mirrored a p)))
then_mirrored a true m n q t e p =
    turned_like q (3 * m + n) _ e ∙ turned-add (3 * m) n _
    ∙ ap (λ r. turned n (turned (3 * m) r)) (sym (mirrored_both a true p)) ∙ ap (turned n) (sym (mirrored_turned m (mirrored a p)))
then_mirrored a false m n q t e p = cc

pub then_plain : (a b : Bool) (m n q : ℕ) → b ≡ false → q % 4 ≡ (m + n) % 4 → (p : Pt) → turned q (mirrored (not (beq a b)) p) ≡ turned n (mirrored b (turned m (mirrored a p)))
then_plain a false m n q t e p =
    turned_like q (m + n) _ e ∙ turned-add m n _ ∙ ap (λ r. turned n (turned m r)) (sym (mirrored_both a false p))
then_plain a true m n q t e p = cc

-- ---- what stays in range

neg_coordinate : (z : ℤ) → IsCoordinate z → IsCoordinate (neg_ℤ z)
neg_coordinate z h = (omega (arith, ints), omega (arith, ints))

mirrored_placed : (b : Bool) (p : Pt) → IsPlaced p → IsPlaced (mirrored b p)
mirrored_placed true p h = (h.0, neg_coordinate p.y h.1)
mirrored_placed false p h = h

turned_placed : (n : ℕ) (p : Pt) → IsPlaced p → IsPlaced (turned n p)
turned_placed zero p h = h
turned_placed (suc n) p h = turned_placed n (record { x = neg_ℤ p.y; y = p.x }) (neg_coordinate p.y h.1, h.0)

-- a turned point has coordinates of the same size
pub apply_of_placed : (turn : Turn) (p : Pt) → IsPlaced p → IsPlaced (apply_of turn p)
apply_of_placed turn p h = turned_placed turn.quarter (mirrored turn.mirror p) (mirrored_placed turn.mirror p h)

-- ---- the code's four arms

pub turned_none : (q : ℕ) (p : Pt) → q % 4 ≡ 0 → p ≡ turned q p
turned_none q p e = sym (turned_like q 0 p e)

pub turned_once : (q : ℕ) (p : Pt) → q % 4 ≡ 1 → record { x = neg_ℤ p.y; y = p.x } ≡ turned q p
turned_once q p e = sym (turned_like q 1 p e)

pub turned_twice : (q : ℕ) (p : Pt) → q % 4 ≡ 2 → record { x = neg_ℤ p.x; y = neg_ℤ p.y } ≡ turned q p
turned_twice q p e = sym (turned_like q 2 p e)

pub turned_thrice : (q : ℕ) (p : Pt) → q % 4 ≡ 3 → record { x = p.y; y = neg_ℤ p.x } ≡ turned q p
turned_thrice q p e = (λ i. record { x = sym (neg_ℤ-neg_ℤ p.y) i; y = neg_ℤ p.x }) ∙ sym (turned_like q 3 p e)
