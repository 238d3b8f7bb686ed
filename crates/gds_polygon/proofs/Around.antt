-- Round a square an outline winds as often as it goes east below it, less the times it goes west below it: with each step
-- what is counted on either side changes as much as whether the point lies to the lower right of the square.
use Rattle.std.proofs.Common.{◌≡◌, refl, sym, ◌∙◌, ap, ℕ, suc, ◌+◌, ◌*◌, ◌-◌, ◌%◌, ◌^◌, ◌≤◌, ◌<◌, Bool, true, false, cond, not, eqb, ◌&&◌, ℤ, pos, ◌+ℤ◌, ◌-ℤ◌, int_lt, int_le, ◌≤ℤ◌, List, [], ◌∷◌, ◌++◌, ◌⊎◌, inl, inr, lit<, arith}
use Rattle.std.proofs.Math.Nat.{mul-suc, suc-mul}
use Rattle.std.proofs.lemmas.Bool.{cases_lt}
use Rattle.std.proofs.lemmas.Bool.Decides.{eqb_tells}
use Rattle.std.proofs.lemmas.Int.{ints, by_lt_z}
use Rattle.std.proofs.lemmas.Nat.{mod-mul-add}
use Rattle.std.specs.Ordering.{int_eq}
use Rattle.list_facts.specs.Between.{between}
use Rattle.list_facts.proofs.Tests.{and_false, le_false, le_from_false, le_true, lt_false, lt_true, not_le, eq_true, eq_false}
use Rattle.drc_geom.specs.declared.point.Pt.{Pt}
use Rattle.drc_geom.specs.Winding.{rises_beside, winding}
use Rattle.region_form.specs.declared.flip.Flip.{Flip}
use Rattle.region_form.specs.Flips.{changes}
use Rattle.region_sweep.specs.Counts.{times, times_up_to}
use Rattle.region_sweep.proofs.Remainders.{difference_is}
use Rattle.gds_polygon.specs.Outlines.{last_of, IsClosed, IsRightAngled}
use Rattle.gds_polygon.specs.Working.Steps.{step, steps_of}
use Rattle.gds_polygon.specs.Working.Windings.{turns}

-- does a lie to the lower right of the square?
lower_right : (x y : ℤ) → Pt → ℕ
lower_right x y a = cond (int_le a.y y && int_lt x a.x) 1 0

-- ---- One step, by what is below and what is to the right

balance : (p q u v : Bool) → (u ≡ v) ⊎ (p ≡ q)
    → (cond ((p && not q) && u) 1 0 + cond (p && (not v && u)) 1 0) + cond (q && v) 1 0
    ≡ (cond (p && (not u && v)) 1 0 + cond ((q && not p) && v) 1 0) + cond (p && u) 1 0
balance true true true true h = refl
balance true true true false h = refl
balance true true false true h = refl
balance true true false false h = refl
balance true false true true h = refl
balance true false true false h = elim h [ inl e ↦ absurd (cc) | inr e ↦ absurd (cc) ]
balance true false false true h = elim h [ inl e ↦ absurd (cc) | inr e ↦ absurd (cc) ]
balance true false false false h = refl
balance false true true true h = refl
balance false true true false h = elim h [ inl e ↦ absurd (cc) | inr e ↦ absurd (cc) ]
balance false true false true h = elim h [ inl e ↦ absurd (cc) | inr e ↦ absurd (cc) ]
balance false true false false h = refl
balance false false u v h = refl

beside : (u v : Bool) → cond (not v && u) 1 0 + cond v 1 0 ≡ cond (not u && v) 1 0 + cond u 1 0
beside true true = refl
beside true false = refl
beside false true = refl
beside false false = refl

-- ---- Tests of a step

up_to : (a x : ℤ) → int_le a x ≡ not (int_lt x a)
up_to a x = by_lt_z x a (λ l. le_false a x l ∙ sym (ap not (lt_true x a l))) (λ l. le_true a x l ∙ sym (ap not (lt_false x a l)))

rows_between : (a b y : ℤ) → between a b y ≡ (int_le a y && not (int_le b y))
rows_between a b y = ap (λ t. int_le a y && t) (sym (not_le b y))

columns_between : (a b x : ℤ) → between a b x ≡ (not (int_lt x a) && int_lt x b)
columns_between a b x = ap (λ t. t && int_lt x b) (up_to a x)

-- a flip from a column on up to no further one changes none
narrow : (a b x : ℤ) → int_lt a b ≡ false → between a b x ≡ false
narrow a b x e =
    let no_further : b ≤ℤ a = le_from_false a b e in
    by_lt_z x a (λ l. ap (λ t. t && int_lt x b) (le_false a x l)) (λ l. ap (λ t. int_le a x && t) (lt_false x b (omega (arith, ints))) ∙ and_false (int_le a x))

-- ---- What a step adds

plus : (b : Bool) (n : ℕ) → cond b (n + 1) n ≡ n + cond b 1 0
plus true n = refl
plus false n = omega arith

nothing_more : (b : Bool) (n : ℕ) → b ≡ false → n ≡ n + cond b 1 0
nothing_more b n e = let z : n ≡ n + 0 = omega arith in z ∙ ap (λ t. n + cond t 1 0) (sym e)

counted_if : (wide here : Bool) (f : Flip) (fs : List Flip) (x y : ℤ) → (wide ≡ false → here ≡ false) → (int_le f.y y && changes f x) ≡ here
    → times_up_to (cond wide (f ∷ []) [] ++ fs) x y ≡ times_up_to fs x y + cond here 1 0
counted_if true here f fs x y h is = ap (λ b. cond b (times_up_to fs x y + 1) (times_up_to fs x y)) is ∙ plus here (times_up_to fs x y)
counted_if false here f fs x y h is = nothing_more here (times_up_to fs x y) (h refl)

total_if : (wide here : Bool) (f : Flip) (fs : List Flip) (x : ℤ) → (wide ≡ false → here ≡ false) → changes f x ≡ here
    → times (cond wide (f ∷ []) [] ++ fs) x ≡ times fs x + cond here 1 0
total_if true here f fs x h is = ap (λ b. cond b (times fs x + 1) (times fs x)) is ∙ plus here (times fs x)
total_if false here f fs x h is = nothing_more here (times fs x) (h refl)

no_column : (a b x : ℤ) → int_lt a b ≡ false → (not (int_lt x a) && int_lt x b) ≡ false
no_column a b x e = sym (columns_between a b x) ∙ narrow a b x e

no_square : (at a b x y : ℤ) → int_lt a b ≡ false → (int_le at y && (not (int_lt x a) && int_lt x b)) ≡ false
no_square at a b x y e = ap (λ t. int_le at y && t) (no_column a b x e) ∙ and_false (int_le at y)

east_counted : (a b : Pt) (fs : List Flip) (x y : ℤ) → times_up_to (step true a b ++ fs) x y ≡ times_up_to fs x y + cond (int_le a.y y && (not (int_lt x a.x) && int_lt x b.x)) 1 0
east_counted a b fs x y =
    counted_if (int_lt a.x b.x) (int_le a.y y && (not (int_lt x a.x) && int_lt x b.x)) (record { y = a.y; x0 = a.x; x1 = b.x }) fs x y
    (no_square a.y a.x b.x x y) (ap (λ t. int_le a.y y && t) (columns_between a.x b.x x))

west_counted : (a b : Pt) (fs : List Flip) (x y : ℤ) → times_up_to (step false a b ++ fs) x y ≡ times_up_to fs x y + cond (int_le a.y y && (not (int_lt x b.x) && int_lt x a.x)) 1 0
west_counted a b fs x y =
    counted_if (int_lt b.x a.x) (int_le a.y y && (not (int_lt x b.x) && int_lt x a.x)) (record { y = a.y; x0 = b.x; x1 = a.x }) fs x y
    (no_square a.y b.x a.x x y) (ap (λ t. int_le a.y y && t) (columns_between b.x a.x x))

east_total : (a b : Pt) (fs : List Flip) (x : ℤ) → times (step true a b ++ fs) x ≡ times fs x + cond (not (int_lt x a.x) && int_lt x b.x) 1 0
east_total a b fs x =
    total_if (int_lt a.x b.x) (not (int_lt x a.x) && int_lt x b.x) (record { y = a.y; x0 = a.x; x1 = b.x }) fs x (no_column a.x b.x x) (columns_between a.x b.x x)

west_total : (a b : Pt) (fs : List Flip) (x : ℤ) → times (step false a b ++ fs) x ≡ times fs x + cond (not (int_lt x b.x) && int_lt x a.x) 1 0
west_total a b fs x =
    total_if (int_lt b.x a.x) (not (int_lt x b.x) && int_lt x a.x) (record { y = a.y; x0 = b.x; x1 = a.x }) fs x (no_column b.x a.x x) (columns_between b.x a.x x)

-- ---- Round a square

signed : (b : Bool) → cond b (pos 1) (pos 0) ≡ pos (cond b 1 0)
signed true = refl
signed false = refl

glue : (win rest : ℤ) (west east r1 r2 w e gb ga nw ne gl : ℕ) → win ≡ (pos r1 -ℤ pos r2) +ℤ rest → west ≡ nw + w → east ≡ ne + e → (r1 + w) + gb ≡ (e + r2) + ga
    → (rest +ℤ pos nw) +ℤ pos gl ≡ pos ne +ℤ pos gb → (win +ℤ pos west) +ℤ pos gl ≡ pos east +ℤ pos ga
glue win rest west east r1 r2 w e gb ga nw ne gl is_win is_west is_east step before = omega (arith, ints)

around : (a : Pt) (points : List Pt) (x y : ℤ) → IsRightAngled (a ∷ points)
    → (winding (a ∷ points) x y +ℤ pos (times_up_to (steps_of false (a ∷ points)) x y)) +ℤ pos (lower_right x y (last_of a points))
    ≡ pos (times_up_to (steps_of true (a ∷ points)) x y) +ℤ pos (lower_right x y a)
unfolding lower_right
around a [] x y h = omega (arith, ints)
around a (b ∷ points) x y h =
    let p = int_le a.y y in
    let q = int_le b.y y in
    let u = int_lt x a.x in
    let v = int_lt x b.x in
    let rest = winding (b ∷ points) x y in
    let west = steps_of false (b ∷ points) in
    let east = steps_of true (b ∷ points) in
    let up : cond (rises_beside a b x y) (pos 1) (pos 0) ≡ pos (cond ((p && not q) && u) 1 0) =
    ap (λ t. cond (t && u) (pos 1) (pos 0)) (rows_between a.y b.y y) ∙ signed ((p && not q) && u) in
    let down : cond (rises_beside b a x y) (pos 1) (pos 0) ≡ pos (cond ((q && not p) && v) 1 0) =
    ap (λ t. cond (t && v) (pos 1) (pos 0)) (rows_between b.y a.y y) ∙ signed ((q && not p) && v) in
    let is : winding (a ∷ b ∷ points) x y ≡ (pos (cond ((p && not q) && u) 1 0) -ℤ pos (cond ((q && not p) && v) 1 0)) +ℤ rest =
    ap (λ t. (t -ℤ cond (rises_beside b a x y) (pos 1) (pos 0)) +ℤ rest) up
    ∙ ap (λ t. (pos (cond ((p && not q) && u) 1 0) -ℤ t) +ℤ rest) down in
    let straight : (u ≡ v) ⊎ (p ≡ q) = elim h.0 [ inl ex ↦ inl (ap (λ t. int_lt x t) ex) | inr ey ↦ inr (ap (λ t. int_le t y) ey) ] in
    glue (winding (a ∷ b ∷ points) x y) rest
    (times_up_to (steps_of false (a ∷ b ∷ points)) x y) (times_up_to (steps_of true (a ∷ b ∷ points)) x y)
    (cond ((p && not q) && u) 1 0) (cond ((q && not p) && v) 1 0) (cond (p && (not v && u)) 1 0) (cond (p && (not u && v)) 1 0)
    (cond (q && v) 1 0) (cond (p && u) 1 0) (times_up_to west x y) (times_up_to east x y) (lower_right x y (last_of b points))
    is (west_counted a b west x y) (east_counted a b east x y) (balance p q u v straight) (around b points x y h.1)

-- all steps together go east as often as west over each column
evened : (t w e u v k n m : ℕ) → (w + v) ≡ (e + u) → n + t ≡ m + v → (n + w) + t ≡ (m + e) + u
evened t w e u v k n m step before = omega arith

columns_even : (a : Pt) (points : List Pt) (x : ℤ)
    → times (steps_of false (a ∷ points)) x + cond (int_lt x (last_of a points).x) 1 0 ≡ times (steps_of true (a ∷ points)) x + cond (int_lt x a.x) 1 0
columns_even a [] x = refl
columns_even a (b ∷ points) x =
    let u = int_lt x a.x in
    let v = int_lt x b.x in
    let west = steps_of false (b ∷ points) in
    let east = steps_of true (b ∷ points) in
    let t = cond (int_lt x (last_of b points).x) 1 0 in
    ap (λ n. n + t) (west_total a b west x)
    ∙ evened t (cond (not v && u) 1 0) (cond (not u && v) 1 0) (cond u 1 0) (cond v 1 0) 0 (times west x) (times east x) (beside u v) (columns_even b points x)
    ∙ ap (λ n. n + cond u 1 0) (sym (east_total a b east x))

-- ---- Closed outlines

same_end : (n m t : ℕ) → n + t ≡ m + t → n ≡ m
same_end n m t e = omega arith

pub columns_close : (points : List Pt) (x : ℤ) → IsClosed points → times (steps_of true points) x ≡ times (steps_of false points) x
columns_close [] x closed = refl
columns_close (a ∷ points) x closed =
    let e : times (steps_of false (a ∷ points)) x + cond (int_lt x a.x) 1 0 ≡ times (steps_of true (a ∷ points)) x + cond (int_lt x a.x) 1 0 =
    ap (λ (l : Pt). times (steps_of false (a ∷ points)) x + cond (int_lt x l.x) 1 0) (sym closed) ∙ columns_even a points x in
    sym (same_end _ _ (cond (int_lt x a.x) 1 0) e)

back : (win : ℤ) (west east g : ℕ) → (win +ℤ pos west) +ℤ pos g ≡ pos east +ℤ pos g → win +ℤ pos west ≡ pos east
back win west east g e = omega (arith, ints)

pub wound : (points : List Pt) (x y : ℤ) → IsClosed points → IsRightAngled points
    → winding points x y +ℤ pos (times_up_to (steps_of false points) x y) ≡ pos (times_up_to (steps_of true points) x y)
wound [] x y closed right = omega (arith, ints)
wound (a ∷ points) x y closed right =
    let w = times_up_to (steps_of false (a ∷ points)) x y in
    let e = times_up_to (steps_of true (a ∷ points)) x y in
    back (winding (a ∷ points) x y) w e (lower_right x y a)
    (ap (λ (l : Pt). (winding (a ∷ points) x y +ℤ pos w) +ℤ pos (lower_right x y l)) (sym closed) ∙ around a points x y right)

-- ---- In 64 bits

regrouped : (b n m p q : ℕ) → p + (b + n) ≡ q + m → n ≤ m → b + p ≡ q + (m - n)
regrouped b n m p q e l = omega arith

west_is : (b n j k m : ℕ) → suc k ≡ m → suc j ≡ b + n → n ≤ m → 0 < n → (b + (b + n) * k) % m ≡ m - n
west_is b n j k m e f l some =
    let product : (b + n) * k + (b + n) ≡ j * m + m =
    sym (mul-suc (b + n) k) ∙ ap (λ t. (b + n) * t) e ∙ ap (λ t. t * m) (sym f) ∙ suc-mul j m in
    ap (λ t. t % m) (regrouped b n m ((b + n) * k) (j * m) product l) ∙ mod-mul-add j m (m - n) (omega arith)

not_nought : (n : ℕ) → (n ≡ 0 → ⊥) → eqb n 0 ≡ false
not_nought n h = elim (eqb_tells n 0) [ inl t ↦ absurd (h t.1) | inr f ↦ f.0 ]

turned : (win : ℤ) (n : ℕ) → (n ≡ 0 → ⊥) → (win ≡ pos 0 → ⊥) → not (eqb n 0) ≡ not (int_eq win (pos 0))
turned win n h z = ap not (not_nought n h ∙ sym (eq_false win (pos 0) z))

inside_general : (win : ℤ) (east west k m : ℕ) → suc k ≡ m → east < m → west < m → win +ℤ pos west ≡ pos east
    → not (eqb ((east + west * k) % m) 0) ≡ not (int_eq win (pos 0))
inside_general win east west k m e small small' is = elim (eqb_tells east west) [
  | inl t ↦
      let same : east ≡ west = t.1 in
      let plain : east ≡ west + 0 = omega arith in
      let none : (east + west * k) % m ≡ 0 = ap (λ n. (n + west * k) % m) plain ∙ difference_is west 0 k m e (omega arith) in
      let flat : win ≡ pos 0 = omega (arith, ints) in
      ap (λ n. not (eqb n 0)) none ∙ sym (ap not (eq_true win (pos 0) flat))
  | inr f ↦
      let apart : win ≡ pos 0 → ⊥ = λ z. f.1 (omega (arith, ints)) in
      elim (cases_lt east west) [
        | inl l ↦
            let n = west - east in
            let plain : west ≡ east + n = omega arith in
            let counted : (east + west * k) % m ≡ m - n =
            ap (λ t. (east + t * k) % m) plain ∙ west_is east n (west - 1) k m e (omega arith) (omega arith) (omega arith) in
            let some : m - n ≡ 0 → ⊥ = λ z. omega arith in
            ap (λ t. not (eqb t 0)) counted ∙ turned win (m - n) some apart
        | inr l ↦
            let n = east - west in
            let plain : east ≡ west + n = omega arith in
            let some : n ≡ 0 → ⊥ = λ z. f.1 (omega arith) in
            let counted : (east + west * k) % m ≡ n = ap (λ t. (t + west * k) % m) plain ∙ difference_is west n k m e (omega arith) in
            ap (λ t. not (eqb t 0)) counted ∙ turned win n some apart
      ]
]

pub inside_wound : (win : ℤ) (east west : ℕ) → east < 2 ^ 64 → west < 2 ^ 64 → win +ℤ pos west ≡ pos east → not (eqb (turns east west) 0) ≡ not (int_eq win (pos 0))
inside_wound win east west small small' is = inside_general win east west (2 ^ 64 - 1) (2 ^ 64) refl small small' is

pub none_turned : (n : ℕ) → not (eqb (turns n n) 0) ≡ false
none_turned n =
    let e : n ≡ n + 0 = omega arith in
    ap (λ t. not (eqb t 0)) (ap (λ t. turns t n) e ∙ difference_is n 0 (2 ^ 64 - 1) (2 ^ 64) refl (lit< tt))
