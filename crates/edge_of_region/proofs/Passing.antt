-- One more flip, from the top down: what a sweep has drawn, and the sides that stand above the next line.
use Rattle.std.proofs.Common.{◌≡◌, ◌⊎◌, inl, inr, Bool, true, false, not, ◌||◌, ◌&&◌, cond, ℤ, pos, ◌-ℤ◌, ◌<ℤ◌, ◌≤ℤ◌, List, [], ◌∷◌, ◌++◌, refl, sym, subst, ap, ◌∙◌, arith}
use Rattle.std.proofs.lemmas.Int.{ints, by_lt_z}
use Rattle.std.specs.Cmp.{first_so, second_so}
use Rattle.std.specs.List.{AllByRecursion}
use Rattle.std.specs.Ordering.{int_eq}
use Rattle.list_facts.proofs.Members.{Has, all_append, all_from_has, all_weaker, has_either, has_holds, has_left, has_right}
use Rattle.list_facts.proofs.Tests.{clash, eq_from_true, from_between, or_known, up_to_between}
use Rattle.drc_geom.specs.Squares.{Squares}
use Rattle.drc_geom.specs.declared.run.Run.{Run}
use Rattle.drc_geom.specs.declared.unit.Side.{Side}
use Rattle.drc_geom.specs.Units.{boundary, has_unit}
use Rattle.drc_geom.specs.Runs.{IsMaximalRun, run_has, runs_have}
use Rattle.drc_geom.proofs.RunUnits.{true_held}
use Rattle.region_form.specs.declared.flip.Flip.{Flip}
use Rattle.region_form.specs.Flips.{StandsBefore, changes, is_odd, squares}
use Rattle.edge_of_region.specs.declared.upright.Upright.{Upright}
use Rattle.edge_of_region.specs.Working.Orders.{Descend}
use Rattle.edge_of_region.specs.Working.Walks.{below_all, level_side, sides_all, upright_run, upright_side}
use Rattle.edge_of_region.proofs.NearLine.{LieUpTo, above_line, before_up_to, below_line, in_between, kept_left, kept_right, turned}
use Rattle.edge_of_region.proofs.SideUnits.{level_unit, lies_from, stands_from, upright_unit}
use Rattle.edge_of_region.proofs.Walks.{IsMade, IsPassed, NoneAt, Stands, differs, not_not, passed}

-- the flip lies below the side's upper end, or on its line and left of it
abbrev LiesUnder : Upright → Flip → Type 0
LiesUnder u g = (g.y <ℤ u.top) ⊎ ((g.y ≡ u.top) × (g.x1 <ℤ u.line))

-- a side that stands in the row above all flips that are left, down to the next of them
pub record IsStanding (set : Squares) (left : List Flip) (u : Upright) : Type 0 where
  pub west : is_odd left (u.line -ℤ pos 1) ≡ u.east
  pub here : is_odd left u.line ≡ not u.east
  pub rows : (row : ℤ) → LieUpTo row left → row <ℤ u.top → (set (u.line -ℤ pos 1) row ≡ u.east) × (set u.line row ≡ not u.east)
  pub ends : set (u.line -ℤ pos 1) u.top ≡ u.east → set u.line u.top ≡ not u.east → ⊥
  pub under : AllByRecursion (LiesUnder u) left

-- a flip that is left changes the column on the line
abbrev pub on_line : List Flip → (line column : ℤ) → Bool
on_line [] line column = false
on_line (g ∷ gs) line column = (int_eq g.y line && changes g column) || on_line gs line column

-- a side of the list that has the unit
pub record HasUpright (all : List Upright) (east : Bool) (line row : ℤ) : Type 0 where
  pub upright : Upright
  pub listed : Has all upright
  pub on : upright.line ≡ line
  pub faces : upright.east ≡ east
  pub tall : row <ℤ upright.top

-- what has been drawn of the boundary of the set while these flips are left
pub record IsDrawn (set : Squares) (left : List Flip) (all : List Upright) (runs : List Run) : Type 0 where
  pub descend : Descend all
  pub standing : AllByRecursion (IsStanding set left) all
  pub every : (x : ℤ) → NoneAt all x → is_odd left (x -ℤ pos 1) ≡ is_odd left x
  pub maximal : AllByRecursion (IsMaximalRun (boundary set)) runs
  pub level : (inside : Bool) (line column : ℤ) → has_unit (boundary set) (level_side inside) line column ≡ true → on_line left line column ≡ false → runs_have runs (level_side inside) line column ≡ true
  pub upright : (east : Bool) (line row : ℤ) → has_unit (boundary set) (upright_side east) line row ≡ true → LieUpTo row left → (runs_have runs (upright_side east) line row ≡ true) ⊎ HasUpright all east line row

-- ---- lists of sides

pub all_front : (P : Upright → Type 0) (xs ys : List Upright) → AllByRecursion P (xs ++ ys) → AllByRecursion P xs
all_front P [] ys a = tt
all_front P (x ∷ xs) ys a = (a.0, all_front P xs ys a.1)

all_back : (P : Upright → Type 0) (xs ys : List Upright) → AllByRecursion P (xs ++ ys) → AllByRecursion P ys
all_back P [] ys a = a
all_back P (x ∷ xs) ys a = all_back P xs ys a.1

pub descend_front : (xs ys : List Upright) → Descend (xs ++ ys) → Descend xs
descend_front [] ys d = tt
descend_front (x ∷ xs) ys d = (all_front (λ v. v.line <ℤ x.line) xs ys d.0, descend_front xs ys d.1)

pub descend_back : (xs ys : List Upright) → Descend (xs ++ ys) → Descend ys
descend_back [] ys d = d
descend_back (x ∷ xs) ys d = descend_back xs ys d.1

descend_join : (xs ys : List Upright) → Descend xs → Descend ys → ((u v : Upright) → Has xs u → Has ys v → v.line <ℤ u.line) → Descend (xs ++ ys)
descend_join [] ys d e h = e
descend_join (x ∷ xs) ys d e h = (
  all_append (λ v. v.line <ℤ x.line) xs ys d.0 (all_from_has (λ v. v.line <ℤ x.line) ys (λ v k. h x v (inl refl) k)),
  descend_join xs ys d.1 e (λ u v p q. h u v (inr p) q),
)

-- a side on the line of x, or none
find_at : (us : List Upright) (x : ℤ) → ((u : Upright) × Has us u × (u.line ≡ x)) ⊎ NoneAt us x
find_at [] x = inr (λ u h e. absurd h)
find_at (u ∷ us) x =
    elim (find_at us x) [
      | inl p ↦ inl (p.0, inr p.1, p.2)
      | inr n ↦ by_lt_z u.line x
          (λ l. inr (λ v h e. elim h [ inl s ↦ let t : u.line ≡ v.line = ap (λ w. w.line) s in omega (arith, ints) | inr k ↦ n v k e ]))
          (λ l. by_lt_z x u.line
          (λ m. inr (λ v h e. elim h [ inl s ↦ let t : u.line ≡ v.line = ap (λ w. w.line) s in omega (arith, ints) | inr k ↦ n v k e ]))
          (λ m. inl (u, inl refl, omega (arith, ints))))
    ]

have_right : (a b : List Run) (side : Side) (l c : ℤ) → runs_have b side l c ≡ true → runs_have (a ++ b) side l c ≡ true
have_right [] b side l c e = e
have_right (r ∷ a) b side l c e = ap (λ v. run_has r side l c || v) (have_right a b side l c e) ∙ or_true (run_has r side l c)
  where
    or_true : (p : Bool) → (p || true) ≡ true
    or_true true = refl
    or_true false = refl

have_left : (a b : List Run) (side : Side) (l c : ℤ) → runs_have a side l c ≡ true → runs_have (a ++ b) side l c ≡ true
have_left [] b side l c e = clash false e refl
have_left (r ∷ a) b side l c e = in_first (run_has r side l c) (runs_have a side l c) (runs_have (a ++ b) side l c) (have_left a b side l c) e
  where
    in_first : (p q r : Bool) → (q ≡ true → r ≡ true) → (p || q) ≡ true → (p || r) ≡ true
    in_first true q r f e = refl
    in_first false q r f e = f e

-- ---- one more flip

module _ (before : List Flip) (f : Flip) (behind : List Flip) (lower : AllByRecursion (λ g. StandsBefore g f) before) (wide : f.x0 <ℤ f.x1) (higher : AllByRecursion (StandsBefore f) behind) (front over back : List Upright) (runs : List Run) where
  abbrev set : Squares
  set = squares (before ++ f ∷ behind)

  abbrev old : ℤ → Bool
  old x = is_odd (before ++ f ∷ []) x

  abbrev new : ℤ → Bool
  new x = is_odd before x

  abbrev all : List Upright
  all = front ++ (over ++ back)

  up_to_all : (row : ℤ) → LieUpTo row before → f.y ≤ℤ row → LieUpTo row (before ++ f ∷ [])
  up_to_all row a l = all_append (λ g. g.y ≤ℤ row) before (f ∷ []) a (l, tt)

  before_line : (row : ℤ) → f.y ≤ℤ row → LieUpTo row before
  before_line row l = all_weaker (λ g. g.y ≤ℤ f.y) (λ g. g.y ≤ℤ row) (λ g k. omega (arith, ints)) before (before_up_to before f behind lower higher before lower)

  last_flip : (P : Flip → Type 0) (gs : List Flip) → AllByRecursion P (gs ++ f ∷ []) → P f
  last_flip P [] a = a.0
  last_flip P (g ∷ gs) a = last_flip P gs a.1

  flips_front : (P : Flip → Type 0) (gs : List Flip) → AllByRecursion P (gs ++ f ∷ []) → AllByRecursion P gs
  flips_front P [] a = tt
  flips_front P (g ∷ gs) a = (a.0, flips_front P gs a.1)

  module _ (d : IsDrawn set (before ++ f ∷ []) all runs) (lefts : AllByRecursion (λ u. f.x1 <ℤ u.line) front) (from : AllByRecursion (λ u. f.x0 ≤ℤ u.line) over) (to : AllByRecursion (λ u. u.line ≤ℤ f.x1) over) (rights : AllByRecursion (λ u. u.line <ℤ f.x0) back) where
    abbrev StandsHere : Upright → Type 0
    StandsHere = Stands set f wide old new (λ x l. above_line before f behind lower higher x l) (λ x l. below_line before f behind lower higher x l) (λ x p q. turned before f behind lower higher x p q) (λ x l. kept_left before f behind lower higher x l) (λ x l. kept_right before f behind lower higher x l)

    abbrev MadeHere : Upright → Type 0
    MadeHere = IsMade set f wide old new (λ x l. above_line before f behind lower higher x l) (λ x l. below_line before f behind lower higher x l) (λ x p q. turned before f behind lower higher x p q) (λ x l. kept_left before f behind lower higher x l) (λ x l. kept_right before f behind lower higher x l)

    abbrev PassedHere : List Upright → List Run → List Upright → Type 0
    PassedHere = IsPassed set f wide old new (λ x l. above_line before f behind lower higher x l) (λ x l. below_line before f behind lower higher x l) (λ x p q. turned before f behind lower higher x p q) (λ x l. kept_left before f behind lower higher x l) (λ x l. kept_right before f behind lower higher x l)

    standing_front : AllByRecursion (IsStanding set (before ++ f ∷ [])) front
    standing_front = all_front (IsStanding set (before ++ f ∷ [])) front (over ++ back) d.standing

    standing_over : AllByRecursion (IsStanding set (before ++ f ∷ [])) over
    standing_over = all_front (IsStanding set (before ++ f ∷ [])) over back (all_back (IsStanding set (before ++ f ∷ [])) front (over ++ back) d.standing)

    standing_back : AllByRecursion (IsStanding set (before ++ f ∷ [])) back
    standing_back = all_back (IsStanding set (before ++ f ∷ [])) over back (all_back (IsStanding set (before ++ f ∷ [])) front (over ++ back) d.standing)

    stands_here : (u : Upright) → u.line ≤ℤ f.x1 → IsStanding set (before ++ f ∷ []) u → StandsHere u
    stands_here u l s =
        let h : f.y <ℤ u.top = elim (last_flip (LiesUnder u) before s.under) [ inl k ↦ k | inr k ↦ let q : f.x1 <ℤ u.line = k.1 in absurd (omega (arith, ints)) ] in
        record {
          west = s.west;
          here = s.here;
          high = h;
          rows = λ row p q. s.rows row (up_to_all row (before_line row p) p) q;
          ends = s.ends;
        }

    all_stand : (us : List Upright) → AllByRecursion (λ u. u.line ≤ℤ f.x1) us → AllByRecursion (IsStanding set (before ++ f ∷ [])) us → AllByRecursion StandsHere us
    all_stand [] a b = tt
    all_stand (u ∷ us) a b = (stands_here u a.0 b.0, all_stand us a.1 b.1)

    -- a side above the flip, by where it stands
    none_here : (x : ℤ) → f.x0 ≤ℤ x → x ≤ℤ f.x1 → NoneAt over x → NoneAt all x
    none_here x p q n u h e =
        elim (has_either front (over ++ back) u h) [
          | inl k ↦ let l = has_holds (λ v. f.x1 <ℤ v.line) front u lefts k in omega (arith, ints)
          | inr k ↦ elim (has_either over back u k) [
            | inl m ↦ n u m e
            | inr m ↦ let l = has_holds (λ v. v.line <ℤ f.x0) back u rights m in omega (arith, ints)
          ]
        ]

    pub passed_here : (right : Bool) → old f.x1 ≡ right → PassedHere over (sides_all f right over) (below_all f right over)
    passed_here right e =
        passed set f wide old new (λ x l. above_line before f behind lower higher x l) (λ x l. below_line before f behind lower higher x l) (λ x p q. turned before f behind lower higher x p q) (λ x l. kept_left before f behind lower higher x l) (λ x l. kept_right before f behind lower higher x l)
        right over (descend_front over back (descend_back front (over ++ back) d.descend)) from to (all_stand over to standing_over)
        (λ x p q n. d.every x (none_here x p q n)) e

    -- a new side stands, too
    made_standing : (n : Upright) → MadeHere n → IsStanding set before n
    made_standing n m =
        let a : f.x0 ≤ℤ n.line = m.from in
        let b : n.line ≤ℤ f.x1 = m.to in
        let t : n.top ≡ f.y = m.top in
        record {
          west = m.west;
          here = m.here;
          rows = λ row p q. (
            in_between before f behind lower higher (n.line -ℤ pos 1) row p (omega (arith, ints)) ∙ m.west,
            in_between before f behind lower higher n.line row p (omega (arith, ints)) ∙ m.here,
          );
          ends = λ p q.
              let p' : old (n.line -ℤ pos 1) ≡ n.east = sym (above_line before f behind lower higher (n.line -ℤ pos 1) (omega (arith, ints))) ∙ (ap (set (n.line -ℤ pos 1)) (sym t) ∙ p) in
              let q' : old n.line ≡ not n.east = sym (above_line before f behind lower higher n.line b) ∙ (ap (set n.line) (sym t) ∙ q) in
              by_lt_z f.x0 n.line
              (λ l.
              differs n.east (sym p' ∙ (turned before f behind lower higher (n.line -ℤ pos 1) (omega (arith, ints)) (omega (arith, ints)) ∙ ap not m.west)))
              (λ l.
              differs (not n.east) (sym q' ∙ (turned before f behind lower higher n.line a (omega (arith, ints)) ∙ ap not m.here)));
          under =
              all_weaker (λ g. StandsBefore g f) (LiesUnder n) (λ g s. elim s [
                | inl l ↦ inl (omega (arith, ints))
                | inr e ↦ let q : g.x1 <ℤ f.x0 = e.1 in inr (e.0 ∙ sym t, omega (arith, ints))
              ]) before lower;
        }

    -- and one that the flip doesn't touch stands on
    still_standing : (u : Upright) → (old (u.line -ℤ pos 1) ≡ new (u.line -ℤ pos 1)) → (old u.line ≡ new u.line) → IsStanding set (before ++ f ∷ []) u → IsStanding set before u
    still_standing u p q s =
        let west : new (u.line -ℤ pos 1) ≡ u.east = sym p ∙ s.west in
        let here : new u.line ≡ not u.east = sym q ∙ s.here in
        record {
          west = west;
          here = here;
          rows = λ row a l. by_lt_z row f.y
              (λ k. (in_between before f behind lower higher (u.line -ℤ pos 1) row a k ∙ west, in_between before f behind lower higher u.line row a k ∙ here))
              (λ k. s.rows row (up_to_all row a k) l);
          ends = s.ends;
          under = flips_front (LiesUnder u) before s.under;
        }

    on_right : (u : Upright) → f.x1 <ℤ u.line → IsStanding set (before ++ f ∷ []) u → IsStanding set before u
    on_right u l s =
        still_standing u (kept_right before f behind lower higher (u.line -ℤ pos 1) (omega (arith, ints))) (kept_right before f behind lower higher u.line (omega (arith, ints))) s

    on_left : (u : Upright) → u.line <ℤ f.x0 → IsStanding set (before ++ f ∷ []) u → IsStanding set before u
    on_left u l s =
        still_standing u (kept_left before f behind lower higher (u.line -ℤ pos 1) (omega (arith, ints))) (kept_left before f behind lower higher u.line l) s

    module _ (made : List Upright) (drawn : List Run) (w : PassedHere over drawn made) where
      abbrev next : List Upright
      next = front ++ (made ++ back)

      made_within : (n : Upright) → Has made n → (f.x0 ≤ℤ n.line) × (n.line ≤ℤ f.x1)
      made_within n h = let m = has_holds MadeHere made n w.stand h in (m.from, m.to)

      next_descend : Descend next
      next_descend =
          descend_join front (made ++ back) (descend_front front (over ++ back) d.descend)
          (descend_join made back w.descend (descend_back over back (descend_back front (over ++ back) d.descend)) (λ u v p q.
          let a = made_within u p in
          let b = has_holds (λ z. z.line <ℤ f.x0) back v rights q in
          let c = a.0 in
          omega (arith, ints)))
          (λ u v p q.
          let a = has_holds (λ z. f.x1 <ℤ z.line) front u lefts p in
          elim (has_either made back v q) [
            | inl k ↦ let b = (made_within v k).1 in omega (arith, ints)
            | inr k ↦ let b = has_holds (λ z. z.line <ℤ f.x0) back v rights k in omega (arith, ints)
          ])

      next_standing : AllByRecursion (IsStanding set before) next
      next_standing =
          all_append (IsStanding set before) front (made ++ back)
          (all_from_has (IsStanding set before) front (λ u h. on_right u (has_holds (λ z. f.x1 <ℤ z.line) front u lefts h) (has_holds (IsStanding set (before ++ f ∷ [])) front u standing_front h)))
          (all_append (IsStanding set before) made back
          (all_weaker MadeHere (IsStanding set before) made_standing made w.stand)
          (all_from_has (IsStanding set before) back (λ u h. on_left u (has_holds (λ z. z.line <ℤ f.x0) back u rights h) (has_holds (IsStanding set (before ++ f ∷ [])) back u standing_back h))))

      -- all of them reach the line at least
      tall_enough : (u : Upright) → Has next u → f.y ≤ℤ u.top
      tall_enough u h =
          elim (has_either front (made ++ back) u h) [
            | inl k ↦ old_tall u (has_holds (IsStanding set (before ++ f ∷ [])) front u standing_front k)
            | inr k ↦ elim (has_either made back u k) [
              | inl m ↦ let t = (has_holds MadeHere made u w.stand m).top in omega (arith, ints)
              | inr m ↦ old_tall u (has_holds (IsStanding set (before ++ f ∷ [])) back u standing_back m)
            ]
          ]
        where
          old_tall : (u : Upright) → IsStanding set (before ++ f ∷ []) u → f.y ≤ℤ u.top
          old_tall u s = elim (last_flip (LiesUnder u) before s.under) [ inl l ↦ omega (arith, ints) | inr e ↦ let q : f.y ≡ u.top = e.0 in omega (arith, ints) ]

      next_every : (x : ℤ) → NoneAt next x → new (x -ℤ pos 1) ≡ new x
      next_every x n =
          by_lt_z x f.x0
          (λ l.
          sym (kept_left before f behind lower higher (x -ℤ pos 1) (omega (arith, ints)))
          ∙ (d.every x (λ u h e. elim (has_either front (over ++ back) u h) [
            | inl k ↦ let a = has_holds (λ z. f.x1 <ℤ z.line) front u lefts k in omega (arith, ints)
            | inr k ↦ elim (has_either over back u k) [
              | inl m ↦ let a = has_holds (λ z. f.x0 ≤ℤ z.line) over u from m in omega (arith, ints)
              | inr m ↦ n u (has_right front (made ++ back) u (has_right made back u m)) e
            ]
          ])
          ∙ kept_left before f behind lower higher x l))
          (λ l. by_lt_z f.x1 x
          (λ m.
          sym (kept_right before f behind lower higher (x -ℤ pos 1) (omega (arith, ints)))
          ∙ (d.every x (λ u h e. elim (has_either front (over ++ back) u h) [
            | inl k ↦ n u (has_left front (made ++ back) u k) e
            | inr k ↦ elim (has_either over back u k) [
              | inl o ↦ let a = has_holds (λ z. z.line ≤ℤ f.x1) over u to o in omega (arith, ints)
              | inr o ↦ let a = has_holds (λ z. z.line <ℤ f.x0) back u rights o in omega (arith, ints)
            ]
          ])
          ∙ kept_right before f behind lower higher x (omega (arith, ints))))
          (λ m. w.every x l m (λ u h e. n u (has_right front (made ++ back) u (has_left made back u h)) e)))

      -- ---- units

      on_line_with : (gs : List Flip) (line column : ℤ) → on_line gs line column ≡ false → (int_eq f.y line && changes f column) ≡ false → on_line (gs ++ f ∷ []) line column ≡ false
      on_line_with [] line column a b = or_known (int_eq f.y line && changes f column) false b
      on_line_with (g ∷ gs) line column a b = neither (int_eq g.y line && changes g column) (on_line gs line column) (on_line (gs ++ f ∷ []) line column) a (λ e. on_line_with gs line column e b)
        where
          neither : (p q r : Bool) → (p || q) ≡ false → (q ≡ false → r ≡ false) → (p || r) ≡ false
          neither true q r e h = clash true refl e
          neither false q r e h = h e

      by_test : {A : Type 0} (b : Bool) → (b ≡ true → A) → (b ≡ false → A) → A
      by_test true p q = p refl
      by_test false p q = q refl

      next_level : (inside : Bool) (line column : ℤ) → has_unit (boundary set) (level_side inside) line column ≡ true → on_line before line column ≡ false → runs_have (runs ++ drawn) (level_side inside) line column ≡ true
      next_level inside line column e n =
          by_test (int_eq f.y line && changes f column)
          (λ t.
          let l : f.y ≡ line = eq_from_true f.y line (first_so (int_eq f.y line) (changes f column) t) in
          let c : changes f column ≡ true = second_so (int_eq f.y line) (changes f column) t in
          let p : f.x0 ≤ℤ column = from_between f.x0 f.x1 column c in
          let q : column <ℤ f.x1 = up_to_between f.x0 f.x1 column c in
          let is : old column ≡ inside =
          sym (above_line before f behind lower higher column (omega (arith, ints))) ∙ (ap (set column) l ∙ (lies_from set inside line column (sym (level_unit set inside line column) ∙ e)).0) in
          have_right runs drawn (level_side inside) line column
          (subst (λ b. runs_have drawn (level_side b) line column ≡ true) is (subst (λ z. runs_have drawn (level_side (old column)) z column ≡ true) l (w.level column p q))))
          (λ t. have_left runs drawn (level_side inside) line column (d.level inside line column e (on_line_with before line column n t)))

      next_upright : (east : Bool) (line row : ℤ) → has_unit (boundary set) (upright_side east) line row ≡ true → LieUpTo row before → (runs_have (runs ++ drawn) (upright_side east) line row ≡ true) ⊎ HasUpright next east line row
      next_upright east line row e a =
          by_lt_z row f.y
          (λ l.
          let s = stands_from set east line row (sym (upright_unit set east line row) ∙ e) in
          let p : new (line -ℤ pos 1) ≡ east = sym (in_between before f behind lower higher (line -ℤ pos 1) row a l) ∙ s.0 in
          let q : new line ≡ not east = sym (in_between before f behind lower higher line row a l) ∙ s.1 in
          elim (find_at next line) [
            | inl u ↦
                let st = has_holds (IsStanding set before) next u.0 next_standing u.1 in
                let t = tall_enough u.0 u.1 in
                inr (record {
                  upright = u.0;
                  listed = u.1;
                  on = u.2;
                  faces = sym st.west ∙ (ap (λ z. new (z -ℤ pos 1)) u.2 ∙ p);
                  tall = omega (arith, ints);
                })
            | inr n ↦ differs east (sym p ∙ (next_every line n ∙ q))
          ])
          (λ l.
          elim (d.upright east line row e (up_to_all row a l)) [
            | inl h ↦ inl (have_left runs drawn (upright_side east) line row h)
            | inr u ↦ elim (has_either front (over ++ back) u.upright u.listed) [
              | inl k ↦ inr (record { upright = u.upright; listed = has_left front (made ++ back) u.upright k; on = u.on; faces = u.faces; tall = u.tall })
              | inr k ↦ elim (has_either over back u.upright k) [
                | inl m ↦ inl (have_right runs drawn (upright_side east) line row
                    (true_held drawn (upright_run f.y u.upright) (upright_side east) line row (w.uprights u.upright m) (record { one_side = ap upright_side u.faces; one_line = u.on; begins = l; ends = u.tall })))
                | inr m ↦ inr (record { upright = u.upright; listed = has_right front (made ++ back) u.upright (has_right made back u.upright m); on = u.on; faces = u.faces; tall = u.tall })
              ]
            ]
          ])

      pub drawn_next : IsDrawn set before next (runs ++ drawn)
      drawn_next =
          record {
            descend = next_descend;
            standing = next_standing;
            every = next_every;
            maximal = all_append (IsMaximalRun (boundary set)) runs drawn d.maximal w.maximal;
            level = next_level;
            upright = next_upright;
          }
