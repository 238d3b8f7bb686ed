-- The whole sweep: it begins with all flips left and nothing drawn, and ends with none left and the whole boundary drawn.
use Rattle.std.proofs.Common.{◌≡◌, inl, inr, Bool, true, false, ◌&&◌, ◌||◌, ℕ, ◌-◌, ℤ, pos, ◌+ℤ◌, ◌-ℤ◌, ◌<ℤ◌, ◌≤ℤ◌, int_le, int_lt, Option, Some, List, [], ◌∷◌, ◌++◌, length, take, drop, get_or, slice_get, ◌+◌, ◌<◌, ◌≤◌, refl, sym, subst, ap, ◌∙◌, append_assoc, arith}
use Rattle.std.proofs.lemmas.Int.{ints, by_lt_z}
use Rattle.std.proofs.lemmas.List.{take_all, take_more}
use Rattle.std.specs.Cmp.{both_ways}
use Rattle.std.specs.List.{AllByRecursion, before_first}
use Rattle.std.specs.Ordering.{int_eq}
use Rattle.list_facts.specs.EitherOr.{exactly_one}
use Rattle.list_facts.proofs.Members.{Has, all_weaker, has_either, has_holds}
use Rattle.list_facts.proofs.Tests.{and_false, between_past, clash, eq_true, le_false, le_from_false, le_from_true, le_true, lt_from_false, lt_from_true, lt_true}
use Rattle.chunked_list.specs.Stretches.{IsMonotone, from_first, last}
use Rattle.chunked_list.proofs.Stretches.{before_and_from, before_fails, drop_before, from_passes}
use Rattle.drc_geom.specs.Squares.{Squares}
use Rattle.drc_geom.specs.declared.run.Run.{Run}
use Rattle.drc_geom.specs.declared.unit.Side.{Side}
use Rattle.drc_geom.specs.declared.unit.Side.TheVariants.{N, E, S, W}
use Rattle.drc_geom.specs.Units.{AreSameUnits, Units, boundary, column_of, has_unit, line_of}
use Rattle.drc_geom.specs.Runs.{IsMaximalRun, runs_have, units_of}
use Rattle.drc_geom.proofs.RunUnits.{held_true}
use Rattle.region_form.specs.declared.flip.Flip.{Flip}
use Rattle.region_form.specs.Flips.{AreSorted, IsRegion, StandsBefore, changes, is_odd, squares}
use Rattle.region_form.proofs.FlipOrder.{all_behind, all_nearer, far_end}
use Rattle.edge_of_region.specs.declared.upright.Upright.{Upright}
use Rattle.edge_of_region.specs.Working.Flips.{back_of, front_of, over_of, right_of}
use Rattle.edge_of_region.specs.Working.Orders.{Descend}
use Rattle.edge_of_region.specs.Working.Walks.{below_all, sides_all, upright_side}
use Rattle.edge_of_region.proofs.NearLine.{all_count}
use Rattle.edge_of_region.proofs.SideUnits.{level_unit, lies_from, stands_from, upright_unit}
use Rattle.edge_of_region.proofs.Walks.{NoneAt, differs, same_along}
use Rattle.edge_of_region.proofs.Passing.{HasUpright, IsDrawn, IsStanding, all_front, descend_back, descend_front, drawn_next, on_line, passed_here}

-- ---- sides by where they stand

pub monotone_up_to : (x : ℤ) (us : List Upright) → Descend us → IsMonotone (λ (u : Upright). int_le u.line x) us
monotone_up_to x [] d = tt
monotone_up_to x (u ∷ us) d = (
  λ t.
      let l : u.line ≤ℤ x = le_from_true u.line x t in
      all_weaker (λ v. v.line <ℤ u.line) (λ v. int_le v.line x ≡ true) (λ v k. le_true v.line x (omega (arith, ints))) us d.0,
  monotone_up_to x us d.1,
)

monotone_left : (x : ℤ) (us : List Upright) → Descend us → IsMonotone (λ (u : Upright). int_lt u.line x) us
monotone_left x [] d = tt
monotone_left x (u ∷ us) d = (
  λ t.
      let l : u.line <ℤ x = lt_from_true u.line x t in
      all_weaker (λ v. v.line <ℤ u.line) (λ v. int_lt v.line x ≡ true) (λ v k. lt_true v.line x (omega (arith, ints))) us d.0,
  monotone_left x us d.1,
)

-- those behind a flip, over it and before it
pub record IsParted (f : Flip) (all : List Upright) : Type 0 where
  pub whole : all ≡ front_of f all ++ (over_of f all ++ back_of f all)
  pub lefts : AllByRecursion (λ u. f.x1 <ℤ u.line) (front_of f all)
  pub from : AllByRecursion (λ u. f.x0 ≤ℤ u.line) (over_of f all)
  pub to : AllByRecursion (λ u. u.line ≤ℤ f.x1) (over_of f all)
  pub rights : AllByRecursion (λ u. u.line <ℤ f.x0) (back_of f all)

pub parted : (f : Flip) (all : List Upright) → Descend all → IsParted f all
parted f all d =
    let p : Upright → Bool = λ u. int_le u.line f.x1 in
    let q : Upright → Bool = λ u. int_lt u.line f.x0 in
    let rest = from_first p all in
    let whole : before_first p all ++ rest ≡ all = before_and_from p all in
    let cut : before_first q rest ++ from_first q rest ≡ rest = before_and_from q rest in
    let down : Descend rest = descend_back (before_first p all) rest (subst Descend (sym whole) d) in
    let low : AllByRecursion (λ u. u.line ≤ℤ f.x1) rest = all_weaker (λ u. p u ≡ true) (λ u. u.line ≤ℤ f.x1) (λ u t. le_from_true u.line f.x1 t) rest (from_passes p all (monotone_up_to f.x1 all d)) in
    record {
      whole = sym (ap (λ us. before_first p all ++ us) cut ∙ whole);
      lefts = all_weaker (λ u. p u ≡ false) (λ u. f.x1 <ℤ u.line) (λ u t. lt_from_false u.line f.x1 t) (before_first p all) (before_fails p all);
      from = all_weaker (λ u. q u ≡ false) (λ u. f.x0 ≤ℤ u.line) (λ u t. le_from_false u.line f.x0 t) (before_first q rest) (before_fails q rest);
      to = all_front (λ u. u.line ≤ℤ f.x1) (before_first q rest) (from_first q rest) (subst (AllByRecursion (λ u. u.line ≤ℤ f.x1)) (sym cut) low);
      rights = all_weaker (λ u. q u ≡ true) (λ u. u.line <ℤ f.x0) (λ u t. lt_from_true u.line f.x0 t) (from_first q rest) (from_passes q rest (monotone_left f.x0 rest down));
    }

-- ---- the column behind a flip

abbrev lowest : Upright → List Upright → Upright
lowest u [] = u
lowest u (v ∷ vs) = lowest v vs

last_from : (u : Upright) (us : List Upright) → slice_get (u ∷ us) (length us) ≡ Some (lowest u us)
last_from u [] = refl
last_from u (v ∷ vs) = last_from v vs

last_is : (u : Upright) (us : List Upright) → last (u ∷ us) ≡ Some (lowest u us)
last_is u us = let n : length (u ∷ us) - 1 ≡ length us = omega arith in ap (slice_get (u ∷ us)) n ∙ last_from u us

lowest_listed : (u : Upright) (us : List Upright) → Has (u ∷ us) (lowest u us)
lowest_listed u [] = inl refl
lowest_listed u (v ∷ vs) = inr (lowest_listed v vs)

lowest_least : (u : Upright) (us : List Upright) → Descend (u ∷ us) → (v : Upright) → Has (u ∷ us) v → (lowest u us).line ≤ℤ v.line
lowest_least u [] d v h = elim h [ inl e ↦ let t : u.line ≡ v.line = ap (λ w. w.line) e in omega (arith, ints) | inr k ↦ absurd k ]
lowest_least u (w ∷ ws) d v h =
    elim h [
      | inl e ↦
          let t : u.line ≡ v.line = ap (λ w. w.line) e in
          let k : w.line <ℤ u.line = d.0.0 in
          let m = lowest_least w ws d.1 w (inl refl) in
          omega (arith, ints)
      | inr k ↦ lowest_least w ws d.1 v k
    ]

none_far : (gs : List Flip) (x : ℤ) → AllByRecursion (λ g. g.x1 ≤ℤ x) gs → is_odd gs x ≡ false
none_far [] x a = refl
none_far (g ∷ gs) x a = ap (λ b. exactly_one b (is_odd gs x)) (between_past g.x0 g.x1 x a.0) ∙ none_far gs x a.1

module _ (set : Squares) (left : List Flip) (f : Flip) (front over back : List Upright) (runs : List Run) (d : IsDrawn set left (front ++ (over ++ back)) runs) (lefts : AllByRecursion (λ u. f.x1 <ℤ u.line) front) (to : AllByRecursion (λ u. u.line ≤ℤ f.x1) over) (rights : AllByRecursion (λ u. u.line <ℤ f.x0) back) (wide : f.x0 <ℤ f.x1) where
  not_over : (x : ℤ) → f.x1 <ℤ x → NoneAt front x → NoneAt (front ++ (over ++ back)) x
  not_over x l n u h e =
      elim (has_either front (over ++ back) u h) [
        | inl k ↦ n u k e
        | inr k ↦ elim (has_either over back u k) [
          | inl m ↦ let a = has_holds (λ v. v.line ≤ℤ f.x1) over u to m in omega (arith, ints)
          | inr m ↦ let a = has_holds (λ v. v.line <ℤ f.x0) back u rights m in omega (arith, ints)
        ]
      ]

  pub right_is : (vs : List Upright) → vs ≡ front → is_odd left f.x1 ≡ right_of (last vs)
  right_is [] e =
      let far = far_end left (f.x1 +ℤ pos 1) in
      let near = all_nearer left (f.x1 +ℤ pos 1) in
      let k : (f.x1 +ℤ pos 1) ≤ℤ far = near.1 in
      same_along (is_odd left) f.x1 (far +ℤ pos 1) (λ x p q. d.every x (not_over x p (λ u h o. subst (λ us. Has us u) (sym e) h))) f.x1 (omega (arith, ints)) (omega (arith, ints))
      ∙ none_far left ((far +ℤ pos 1) -ℤ pos 1) (all_weaker (λ g. g.x1 ≤ℤ far) (λ g. g.x1 ≤ℤ ((far +ℤ pos 1) -ℤ pos 1)) (λ g o. omega (arith, ints)) left near.0)
  right_is (v ∷ vs) e =
      let u = lowest v vs in
      let listed : Has front u = subst (λ us. Has us u) e (lowest_listed v vs) in
      let behind = has_holds (λ w. f.x1 <ℤ w.line) front u lefts listed in
      let down : Descend (v ∷ vs) = subst Descend (sym e) (descend_front front (over ++ back) d.descend) in
      let st = has_holds (IsStanding set left) front u (all_front (IsStanding set left) front (over ++ back) d.standing) listed in
      same_along (is_odd left) f.x1 u.line (λ x p q. d.every x (not_over x p (λ w h o. let m = lowest_least v vs down w (subst (λ us. Has us w) (sym e) h) in omega (arith, ints)))) f.x1 (omega (arith, ints)) behind
      ∙ (st.west ∙ sym (ap right_of (last_is v vs)))

-- ---- one more flip

-- a flip among sorted ones
pub record IsAmong (before : List Flip) (f : Flip) (behind : List Flip) : Type 0 where
  pub lower : AllByRecursion (λ g. StandsBefore g f) before
  pub wide : f.x0 <ℤ f.x1
  pub higher : AllByRecursion (StandsBefore f) behind

among : (before : List Flip) (f : Flip) (behind : List Flip) → AreSorted (before ++ f ∷ behind) → IsAmong before f behind
among [] f behind s = record { lower = tt; wide = s.0; higher = all_behind f behind s }
among (g ∷ before) f behind s =
    let rest = among before f behind s.2 in
    record {
      lower = (member before (all_behind g (before ++ f ∷ behind) s), rest.lower);
      wide = rest.wide;
      higher = rest.higher;
    }
  where
    member : (gs : List Flip) → AllByRecursion (StandsBefore g) (gs ++ f ∷ behind) → StandsBefore g f
    member [] a = a.0
    member (h ∷ gs) a = member gs a.1

-- how far the sweep has come down
pub record IsSwept (flips left : List Flip) (all : List Upright) (runs : List Run) : Type 0 where
  pub rest : List Flip
  pub whole : flips ≡ left ++ rest
  pub drawn : IsDrawn (squares flips) left all runs

pub swept_wide : (flips before : List Flip) (f : Flip) (all : List Upright) (runs : List Run) → AreSorted flips → IsSwept flips (before ++ f ∷ []) all runs → f.x0 <ℤ f.x1
swept_wide flips before f all runs s w =
    (among before f w.rest (subst AreSorted (w.whole ∙ append_assoc before (f ∷ []) w.rest) s)).wide

pub swept_step : (flips before : List Flip) (f : Flip) (all all' : List Upright) (runs runs' : List Run) → AreSorted flips → all' ≡ front_of f all ++ (below_all f (right_of (last (front_of f all))) (over_of f all) ++ back_of f all) → runs' ≡ runs ++ sides_all f (right_of (last (front_of f all))) (over_of f all) → IsSwept flips (before ++ f ∷ []) all runs → IsSwept flips before all' runs'
swept_step flips before f all all' runs runs' s e g w =
    let whole : flips ≡ before ++ f ∷ w.rest = w.whole ∙ append_assoc before (f ∷ []) w.rest in
    let m = among before f w.rest (subst AreSorted whole s) in
    let p = parted f all w.drawn.descend in
    let front = front_of f all in
    let over = over_of f all in
    let back = back_of f all in
    let right = right_of (last front) in
    let here : IsDrawn (squares (before ++ f ∷ w.rest)) (before ++ f ∷ []) (front ++ (over ++ back)) runs =
    subst (λ us. IsDrawn (squares (before ++ f ∷ w.rest)) (before ++ f ∷ []) us runs) p.whole (subst (λ fs. IsDrawn (squares fs) (before ++ f ∷ []) all runs) whole w.drawn) in
    let at_right = right_is (squares (before ++ f ∷ w.rest)) (before ++ f ∷ []) f front over back runs here p.lefts p.to p.rights m.wide front refl in
    let walk = passed_here before f w.rest m.lower m.wide m.higher front over back runs here p.lefts p.from p.to p.rights right at_right in
    let next = drawn_next before f w.rest m.lower m.wide m.higher front over back runs here p.lefts p.from p.to p.rights (below_all f right over) (sides_all f right over) walk in
    record {
      rest = f ∷ w.rest;
      whole = whole;
      drawn =
          subst (λ us. IsDrawn (squares flips) before us runs') (sym e)
          (subst (λ rs. IsDrawn (squares flips) before (front ++ (below_all f right over ++ back)) rs) (sym g)
          (subst (λ fs. IsDrawn (squares fs) before (front ++ (below_all f right over ++ back)) (runs ++ sides_all f right over)) (sym whole) next));
    }

-- ---- where it begins

-- where no flip lies on the line, the squares on both sides of it are the same
line_same : (gs : List Flip) (line column : ℤ) → on_line gs line column ≡ false → squares gs column line ≡ squares gs column (line -ℤ pos 1)
line_same [] line column e = refl
line_same (g ∷ gs) line column e = by_first (int_eq g.y line && changes g column) (on_line gs line column) refl refl e (line_same gs line column)
  where
    counted_off : (p q : Bool) → (p && q) ≡ false → p ≡ true → q ≡ false
    counted_off p q e f = sym (ap (λ b. b && q) f) ∙ e

    by_first : (p q : Bool) → (int_eq g.y line && changes g column) ≡ p → on_line gs line column ≡ q → (p || q) ≡ false → (on_line gs line column ≡ false → squares gs column line ≡ squares gs column (line -ℤ pos 1)) → squares (g ∷ gs) column line ≡ squares (g ∷ gs) column (line -ℤ pos 1)
    by_first true q a b f h = clash true refl f
    by_first false q a b f h =
        let same : (int_le g.y line && changes g column) ≡ (int_le g.y (line -ℤ pos 1) && changes g column) =
        by_lt_z line g.y
        (λ l. ap (λ b. b && changes g column) (le_false g.y line l ∙ sym (le_false g.y (line -ℤ pos 1) (omega (arith, ints)))))
        (λ l. by_lt_z g.y line
        (λ m. ap (λ b. b && changes g column) (le_true g.y line l ∙ sym (le_true g.y (line -ℤ pos 1) (omega (arith, ints)))))
        (λ m.
        let off = counted_off (int_eq g.y line) (changes g column) a (eq_true g.y line (omega (arith, ints))) in
        ap (λ b. int_le g.y line && b) off ∙ (and_false (int_le g.y line) ∙ sym (ap (λ b. int_le g.y (line -ℤ pos 1) && b) off ∙ and_false (int_le g.y (line -ℤ pos 1)))))) in
        ap (λ b. exactly_one b (squares gs column line)) same ∙ ap (exactly_one (int_le g.y (line -ℤ pos 1) && changes g column)) (h (b ∙ f))

pub swept_start : (flips : List Flip) → IsRegion flips → IsSwept flips flips [] []
swept_start flips form =
    record {
      rest = [];
      whole = sym (append_nil flips);
      drawn = record {
        descend = tt;
        standing = tt;
        every = λ x n. form.closed (x -ℤ pos 1) ∙ sym (form.closed x);
        maximal = tt;
        level = λ inside line column e n.
            let s = lies_from (squares flips) inside line column (sym (level_unit (squares flips) inside line column) ∙ e) in
            differs inside (sym s.0 ∙ (line_same flips line column n ∙ s.1));
        upright = λ east line row e a.
            let s = stands_from (squares flips) east line row (sym (upright_unit (squares flips) east line row) ∙ e) in
            let p = all_count flips (line -ℤ pos 1) row a ∙ form.closed (line -ℤ pos 1) in
            let q = all_count flips line row a ∙ form.closed line in
            differs east (sym s.0 ∙ (p ∙ (sym q ∙ s.1)));
      };
    }
  where
    append_nil : (fs : List Flip) → fs ++ [] ≡ fs
    append_nil [] = refl
    append_nil (f ∷ fs) = ap (λ gs. f ∷ gs) (append_nil fs)

-- ---- where it ends

there_and_back : (z : ℤ) → (z +ℤ pos 1) -ℤ pos 1 ≡ z
there_and_back z = omega (arith, ints)

unit_at : (units : Units) (x y : ℤ) (side : Side) → has_unit units side (line_of side x y) (column_of side x y) ≡ units x y side
unit_at units x y N = ap (λ z. units x z N) (there_and_back y)
unit_at units x y S = refl
unit_at units x y E = ap (λ z. units z y E) (there_and_back x)
unit_at units x y W = refl

module _ (set : Squares) (all : List Upright) (runs : List Run) (d : IsDrawn set [] all runs) where
  none_stands : {A : Type 0} (east : Bool) (line row : ℤ) → HasUpright all east line row → A
  none_stands east line row u =
      let s = has_holds (IsStanding set []) all u.upright d.standing u.listed in
      differs u.upright.east (sym s.west ∙ s.here)

  stands : (east : Bool) (line row : ℤ) → has_unit (boundary set) (upright_side east) line row ≡ true → runs_have runs (upright_side east) line row ≡ true
  stands east line row e = elim (d.upright east line row e tt) [ inl h ↦ h | inr u ↦ none_stands east line row u ]

  drawn_side : (side : Side) (line column : ℤ) → has_unit (boundary set) side line column ≡ true → runs_have runs side line column ≡ true
  drawn_side N line column e = d.level false line column e refl
  drawn_side S line column e = d.level true line column e refl
  drawn_side E line column e = stands true line column e
  drawn_side W line column e = stands false line column e

  on_boundary : (side : Side) (line column : ℤ) → runs_have runs side line column ≡ true → has_unit (boundary set) side line column ≡ true
  on_boundary side line column e =
      let h = held_true runs side line column e in
      let m = has_holds (IsMaximalRun (boundary set)) runs h.run d.maximal h.listed in
      subst (λ s. has_unit (boundary set) s line column ≡ true) h.on.one_side
      (subst (λ l. has_unit (boundary set) h.run.side l column ≡ true) h.on.one_line (m.inside column h.on.begins h.on.ends))

  pub all_units : AreSameUnits (units_of runs) (boundary set)
  all_units x y side =
      both_ways (units_of runs x y side) (boundary set x y side)
      (λ e. sym (unit_at (boundary set) x y side) ∙ on_boundary side (line_of side x y) (column_of side x y) e)
      (λ e. drawn_side side (line_of side x y) (column_of side x y) (unit_at (boundary set) x y side ∙ e))

-- ---- the flip that is passed next

front_and_last : (fs : List Flip) (d : Flip) → 1 ≤ length fs → fs ≡ take (length fs - 1) fs ++ get_or fs (length fs - 1) d ∷ []
front_and_last fs d l =
    let n : (length fs - 1) + 1 ≡ length fs = omega arith in
    sym (take_all (length fs) fs (omega arith)) ∙ (ap (λ k. take k fs) (sym n) ∙ take_more fs (length fs - 1) d (omega arith))

pub swept_next : (flips left : List Flip) (d : Flip) (all all' : List Upright) (runs runs' : List Run) → IsRegion flips → 1 ≤ length left → all' ≡ front_of (get_or left (length left - 1) d) all ++ (below_all (get_or left (length left - 1) d) (right_of (last (front_of (get_or left (length left - 1) d) all))) (over_of (get_or left (length left - 1) d) all) ++ back_of (get_or left (length left - 1) d) all) → runs' ≡ runs ++ sides_all (get_or left (length left - 1) d) (right_of (last (front_of (get_or left (length left - 1) d) all))) (over_of (get_or left (length left - 1) d) all) → IsSwept flips left all runs → IsSwept flips (take (length left - 1) left) all' runs'
swept_next flips left d all all' runs runs' form l e g w =
    swept_step flips (take (length left - 1) left) (get_or left (length left - 1) d) all all' runs runs' form.sorted e g (subst (λ fs. IsSwept flips fs all runs) (front_and_last left d l) w)

pub swept_end : (flips left : List Flip) (all : List Upright) (runs : List Run) → length left < 1 → IsSwept flips left all runs → AreSameUnits (units_of runs) (boundary (squares flips))
swept_end flips [] all runs l w = all_units (squares flips) all runs w.drawn
swept_end flips (f ∷ left) all runs l w = absurd (omega arith)

-- ---- what is read, walked over and put back

module _ (f : Flip) (a0 a1 : ℤ) (at0 : a0 ≡ f.x0) (at1 : a1 ≡ f.x1) (all above : List Upright) (behind : Option Upright) (right : Bool) (is_above : above ≡ before_first (λ (u : Upright). int_lt u.line a0) (from_first (λ (u : Upright). int_le u.line a1) all)) (is_behind : behind ≡ last (before_first (λ (u : Upright). int_le u.line a1) all)) (is_right : right ≡ right_of behind) where
  over : above ≡ over_of f all
  over =
      is_above
      ∙ (ap (λ z. before_first (λ (u : Upright). int_lt u.line z) (from_first (λ (u : Upright). int_le u.line a1) all)) at0
      ∙ ap (λ z. before_first (λ (u : Upright). int_lt u.line f.x0) (from_first (λ (u : Upright). int_le u.line z) all)) at1)

  known : right ≡ right_of (last (front_of f all))
  known = is_right ∙ ap right_of (is_behind ∙ ap (λ z. last (before_first (λ (u : Upright). int_le u.line z) all)) at1)

  pub runs_walked : (old new : List Run) → new ≡ old ++ sides_all f right above → new ≡ old ++ sides_all f (right_of (last (front_of f all))) (over_of f all)
  runs_walked old new e = e ∙ (ap (λ r. old ++ sides_all f r above) known ∙ ap (λ us. old ++ sides_all f (right_of (last (front_of f all))) us) over)

  pub put_back : (below new : List Upright) (count : ℕ) → below ≡ below_all f right above → count ≡ length above → new ≡ (before_first (λ (u : Upright). int_le u.line a1) all ++ below) ++ drop count (from_first (λ (u : Upright). int_le u.line a1) all) → new ≡ front_of f all ++ (below_all f (right_of (last (front_of f all))) (over_of f all) ++ back_of f all)
  put_back below new count is_below is_count e =
      let rest = from_first (λ (u : Upright). int_le u.line f.x1) all in
      let made : below ≡ below_all f (right_of (last (front_of f all))) (over_of f all) =
      is_below ∙ (ap (λ r. below_all f r above) known ∙ ap (below_all f (right_of (last (front_of f all)))) over) in
      e
      ∙ (ap (λ z. (before_first (λ (u : Upright). int_le u.line z) all ++ below) ++ drop count (from_first (λ (u : Upright). int_le u.line z) all)) at1
      ∙ (ap (λ n. (front_of f all ++ below) ++ drop n rest) (is_count ∙ ap length over)
      ∙ (ap (λ us. (front_of f all ++ below) ++ us) (drop_before (λ (u : Upright). int_lt u.line f.x0) rest)
      ∙ (append_assoc (front_of f all) below (back_of f all) ∙ ap (λ us. front_of f all ++ (us ++ back_of f all)) made))))
