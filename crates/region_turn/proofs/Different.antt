-- The corners of a region are all different, so two flips between them that lie on one line don't touch.
use Rattle.std.proofs.Common.{◌≡◌, ◌⊎◌, inl, inr, Bool, true, false, ◌&&◌, cond, ℕ, ◌≤◌, ℤ, ◌<ℤ◌, ◌≤ℤ◌, int_lt, List, [], ◌∷◌, refl, sym, ap, ◌∙◌, arith}
use Rattle.std.proofs.lemmas.Int.{ints, by_lt_z}
use Rattle.std.proofs.lemmas.List.Sorted.{sum_by-IsPermutation}
use Rattle.std.proofs.lemmas.List.Sums.{sum_by-cons}
use Rattle.std.specs.List.{sum_by}
use Rattle.std.specs.List.Sorted.{IsPermutation}
use Rattle.std.specs.Ordering.{int_eq}
use Rattle.list_facts.proofs.Tests.{clash, eq_from_true, eq_true, lt_true}
use Rattle.region_form.specs.declared.flip.Flip.{Flip}
use Rattle.region_form.specs.Flips.{AreSorted, StandsBefore, StandsBeforeFirst}
use Rattle.region_turn.specs.declared.corner.Corner.{Corner}
use Rattle.region_turn.specs.Working.Corners.{Ascend, Follows, corners_of, flips_between, odd_up_to}
use Rattle.region_turn.proofs.Corners.{even_behind, first_line_is}

abbrev pub one_if : Bool → ℕ
one_if b = cond b 1 0

abbrev at_place : ℤ → ℤ → Corner → ℕ
at_place line row c = one_if (int_eq c.line line && int_eq c.row row)

-- how many corners lie at a place
abbrev pub count_at : ℤ → ℤ → List Corner → ℕ
count_at line row = sum_by (at_place line row)

counted_off : (p q : Bool) → (p ≡ true → q ≡ true → ⊥) → one_if (p && q) ≡ 0
counted_off true true n = absurd (n refl refl)
counted_off true false n = refl
counted_off false q n = refl

counted_on : (p q : Bool) → p ≡ true → q ≡ true → one_if (p && q) ≡ 1
counted_on p q e f = ap (λ b. one_if (b && q)) e ∙ ap one_if f

-- a fact counts at most once
pub counted_once : (b : Bool) → one_if b ≤ 1
counted_once true = omega arith
counted_once false = omega arith

elsewhere : (c : Corner) (line row : ℤ) → (c.line ≡ line → c.row ≡ row → ⊥) → at_place line row c ≡ 0
elsewhere c line row n =
    counted_off (int_eq c.line line) (int_eq c.row row) (λ p q. n (eq_from_true c.line line p) (eq_from_true c.row row q))

here : (c : Corner) (line row : ℤ) → c.line ≡ line → c.row ≡ row → at_place line row c ≡ 1
here c line row p q = counted_on (int_eq c.line line) (int_eq c.row row) (eq_true c.line line p) (eq_true c.row row q)

by_equal : {A : Type 0} (a b : ℤ) → (a ≡ b → A) → ((a ≡ b → ⊥) → A) → A
by_equal a b f g =
    by_lt_z a b (λ l. g (λ e. omega (arith, ints))) (λ l. by_lt_z b a (λ m. g (λ e. omega (arith, ints))) (λ m. f (omega (arith, ints))))

-- the flip lies on a line above the row, or on its line behind the column
abbrev LiesPast : ℤ → ℤ → Flip → Type 0
LiesPast line row g = (row <ℤ g.y) ⊎ ((row ≡ g.y) × (line <ℤ g.x0))

past_more : (line row : ℤ) (f g : Flip) → f.x0 <ℤ f.x1 → StandsBefore f g → LiesPast line row f → LiesPast line row g
past_more line row f g w s p =
    elim p [
      | inl l ↦ inl (elim s [ inl m ↦ omega (arith, ints) | inr e ↦ let q : f.y ≡ g.y = e.0 in omega (arith, ints) ])
      | inr e ↦
          let q : row ≡ f.y = e.0 in
          elim s [
            | inl m ↦ inl (omega (arith, ints))
            | inr k ↦ inr (q ∙ k.0, let a : line <ℤ f.x0 = e.1 in let b : f.x1 <ℤ g.x0 = k.1 in omega (arith, ints))
          ]
    ]

abbrev FirstLiesPast : ℤ → ℤ → List Flip → Type 0
FirstLiesPast line row [] = Unit {0}
FirstLiesPast line row (g ∷ gs) = LiesPast line row g

next_past : (line row : ℤ) (f : Flip) (fs : List Flip) → f.x0 <ℤ f.x1 → StandsBeforeFirst f fs → LiesPast line row f → FirstLiesPast line row fs
next_past line row f [] w s p = tt
next_past line row f (g ∷ gs) w s p = past_more line row f g w s p

off_past : (line row : ℤ) (f : Flip) (x : ℤ) → f.x0 ≤ℤ x → LiesPast line row f → x ≡ line → f.y ≡ row → ⊥
off_past line row f x w p e q =
    elim p [
      | inl l ↦ omega (arith, ints)
      | inr k ↦ let a : line <ℤ f.x0 = k.1 in omega (arith, ints)
    ]

none_past : (fs : List Flip) (line row : ℤ) → AreSorted fs → FirstLiesPast line row fs → count_at line row (corners_of fs) ≡ 0
none_past [] line row s p = refl
none_past (f ∷ fs) line row s p =
    let low : Corner = record { line = f.x0; row = f.y } in
    let high : Corner = record { line = f.x1; row = f.y } in
    let w : f.x0 <ℤ f.x1 = s.0 in
    let a = elsewhere low line row (off_past line row f f.x0 (omega (arith, ints)) p) in
    let b = elsewhere high line row (off_past line row f f.x1 (omega (arith, ints)) p) in
    let c = none_past fs line row s.2 (next_past line row f fs w s.1 p) in
    let d = sum_by-cons (at_place line row) low (high ∷ corners_of fs) in
    let e = sum_by-cons (at_place line row) high (corners_of fs) in
    omega arith

behind_end : (f g : Flip) (line row : ℤ) → StandsBefore f g → f.y ≡ row → line ≤ℤ f.x1 → LiesPast line row g
behind_end f g line row s e l =
    elim s [
      | inl m ↦ inl (omega (arith, ints))
      | inr k ↦ inr (sym e ∙ k.0, let b : f.x1 <ℤ g.x0 = k.1 in omega (arith, ints))
    ]

first_behind_end : (f : Flip) (fs : List Flip) (line row : ℤ) → StandsBeforeFirst f fs → f.y ≡ row → line ≤ℤ f.x1 → FirstLiesPast line row fs
first_behind_end f [] line row s e l = tt
first_behind_end f (g ∷ gs) line row s e l = behind_end f g line row s e l

pub one_at : (fs : List Flip) (line row : ℤ) → AreSorted fs → count_at line row (corners_of fs) ≤ 1
one_at [] line row s = omega arith
one_at (f ∷ fs) line row s =
    let low : Corner = record { line = f.x0; row = f.y } in
    let high : Corner = record { line = f.x1; row = f.y } in
    let w : f.x0 <ℤ f.x1 = s.0 in
    let a = counted_once (int_eq low.line line && int_eq low.row row) in
    let b = counted_once (int_eq high.line line && int_eq high.row row) in
    let c = one_at fs line row s.2 in
    let d = sum_by-cons (at_place line row) low (high ∷ corners_of fs) in
    let e = sum_by-cons (at_place line row) high (corners_of fs) in
    by_equal f.y row
    (λ r. by_equal f.x0 line
    (λ l.
    let n = none_past fs line row s.2 (first_behind_end f fs line row s.1 r (omega (arith, ints))) in
    let z = elsewhere high line row (λ p q. omega (arith, ints)) in
    omega arith)
    (λ l.
    let y = elsewhere low line row (λ p q. l p) in
    by_equal f.x1 line
    (λ m. let n = none_past fs line row s.2 (first_behind_end f fs line row s.1 r (omega (arith, ints))) in omega arith)
    (λ m. let z = elsewhere high line row (λ p q. m p) in omega arith)))
    (λ r.
    let y = elsewhere low line row (λ p q. r q) in
    let z = elsewhere high line row (λ p q. r q) in
    omega arith)

pub count_moved : (cs ds : List Corner) (line row : ℤ) → IsPermutation cs ds → count_at line row ds ≡ count_at line row cs
count_moved cs ds line row p = sum_by-IsPermutation (at_place line row) cs ds p

-- no two corners lie at one place
abbrev pub AreDifferent : List Corner → Type 0
AreDifferent cs = (line row : ℤ) → count_at line row cs ≤ 1

different_rest : (c : Corner) (cs : List Corner) → AreDifferent (c ∷ cs) → AreDifferent cs
different_rest c cs a line row =
    let b = a line row in
    let d = sum_by-cons (at_place line row) c cs in
    omega arith

-- of two corners in order and at different places on one line the first lies lower
lower_first : (c d : Corner) (cs : List Corner) → AreDifferent (c ∷ d ∷ cs) → Follows c d → (c.line <ℤ d.line) ⊎ ((c.line ≡ d.line) × (c.row <ℤ d.row))
lower_first c d cs a f =
    elim f [
      | inl l ↦ inl l
      | inr e ↦ inr (
        e.0,
        by_lt_z c.row d.row (λ l. l)
            (λ l.
            let m : c.row ≤ℤ d.row = e.1 in
            let p = here c c.line c.row refl refl in
            let q = here d c.line c.row (sym e.0) (omega (arith, ints)) in
            let r = a c.line c.row in
            let s = sum_by-cons (at_place c.line c.row) c (d ∷ cs) in
            let t = sum_by-cons (at_place c.line c.row) d cs in
            absurd (omega arith)),
      )
    ]

sorted_kept : (b : Bool) (f : Flip) (fs : List Flip) → b ≡ true → f.x0 <ℤ f.x1 → StandsBeforeFirst f fs → AreSorted fs → AreSorted (cond b (f ∷ fs) fs)
sorted_kept true f fs e w a r = (w, a, r)
sorted_kept false f fs e w a r = r

first_kept : (b : Bool) (f g : Flip) (gs : List Flip) → b ≡ true → StandsBefore f g → StandsBeforeFirst f (cond b (g ∷ gs) gs)
first_kept true f g gs e s = s
first_kept false f g gs e s = clash false e refl

-- the second corner of a flip, and what lies between the corners behind it
before_between : (f : Flip) (d : Corner) (cs : List Corner) → f.y ≡ d.line → f.x1 ≡ d.row → Ascend (d ∷ cs) → AreDifferent (d ∷ cs) → ((x : ℤ) → odd_up_to cs x ≡ false) → StandsBeforeFirst f (flips_between cs)
before_between f d [] l r a n even = tt
before_between f d (e ∷ []) l r a n even = tt
before_between f d (e ∷ g ∷ cs) l r a n even =
    let one = first_line_is e g cs a.1 even in
    let higher = lower_first e g cs (different_rest d (e ∷ g ∷ cs) n) a.1.0.0 in
    let strict : e.row <ℤ g.row = elim higher [ inl m ↦ absurd (let q : e.line ≡ g.line = one.0 in omega (arith, ints)) | inr k ↦ k.1 ] in
    first_kept (int_lt e.row g.row) f (record { y = e.line; x0 = e.row; x1 = g.row }) (flips_between cs) (lt_true e.row g.row strict)
    (elim (lower_first d e (g ∷ cs) n a.0.0) [
      | inl m ↦ inl (omega (arith, ints))
      | inr k ↦ inr (l ∙ k.0, let q : d.row <ℤ e.row = k.1 in omega (arith, ints))
    ])

pub between_sorted : (cs : List Corner) → Ascend cs → AreDifferent cs → ((x : ℤ) → odd_up_to cs x ≡ false) → AreSorted (flips_between cs)
between_sorted [] a n even = tt
between_sorted (c ∷ []) a n even = tt
between_sorted (c ∷ d ∷ cs) a n even =
    let one = first_line_is c d cs a even in
    let rest = even_behind c d cs one.0 even in
    let strict : c.row <ℤ d.row = elim (lower_first c d cs n a.0.0) [ inl m ↦ absurd (let q : c.line ≡ d.line = one.0 in omega (arith, ints)) | inr k ↦ k.1 ] in
    sorted_kept (int_lt c.row d.row) (record { y = c.line; x0 = c.row; x1 = d.row }) (flips_between cs) (lt_true c.row d.row strict) strict
    (before_between (record { y = c.line; x0 = c.row; x1 = d.row }) d cs one.0 refl a.1 (different_rest c (d ∷ cs) n) rest)
    (between_sorted cs a.1.1 (different_rest d cs (different_rest c (d ∷ cs) n)) rest)
