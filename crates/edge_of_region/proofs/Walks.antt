-- What a walk over a flip draws: the maximal runs that end or lie on its line, and the sides that stand below it. `old` are
-- the columns with a square above the line, `new` those with a square below it, as far as the flip goes.
use Rattle.std.proofs.Common.{◌≡◌, ◌⊎◌, inl, inr, Bool, true, false, not, ◌||◌, cond, ℕ, zero, suc, ℤ, pos, negsuc, ◌+ℤ◌, ◌-ℤ◌, ◌<ℤ◌, ◌≤ℤ◌, int_lt, ◌<◌, ◌≤◌, List, [], ◌∷◌, length, get_or, drop, ◌++◌, append_assoc, refl, sym, subst, ap, ◌∙◌, arith}
use Rattle.std.proofs.lemmas.Int.{ints, by_lt_z}
use Rattle.std.specs.List.{AllByRecursion}
use Rattle.std.specs.Ordering.{int_eq}
use Rattle.list_facts.proofs.Members.{Has, all_weaker, has_holds}
use Rattle.list_facts.proofs.Tests.{clash, eq_false, eq_from_true, eq_true, le_from_false, lt_from_true, lt_true}
use Rattle.drc_geom.specs.Squares.{Squares}
use Rattle.drc_geom.specs.declared.run.Run.{Run}
use Rattle.drc_geom.specs.Units.{boundary}
use Rattle.drc_geom.specs.Runs.{IsMaximalRun, run_has, runs_have}
use Rattle.drc_geom.proofs.RunUnits.{true_held}
use Rattle.region_form.specs.declared.flip.Flip.{Flip}
use Rattle.edge_of_region.specs.declared.upright.Upright.{Upright}
use Rattle.edge_of_region.specs.Working.Orders.{Descend}
use Rattle.edge_of_region.specs.Working.Walks.{below_all, below_from, level_run, level_side, sides_all, sides_from, upright_run}
use Rattle.edge_of_region.proofs.SideUnits.{level_unit, lies_false, lies_true, stands_false, stands_true, upright_unit}

-- none of them stands on the line of x
abbrev pub NoneAt : List Upright → ℤ → Type 0
NoneAt us x = (u : Upright) → Has us u → u.line ≡ x → ⊥

pub not_not : (b : Bool) → not (not b) ≡ b
not_not true = refl
not_not false = refl

pub differs : {A : Type 0} (b : Bool) → b ≡ not b → A
differs true e = clash true refl e
differs false e = clash false e refl

-- a number of steps that is enough
steps : (z : ℤ) → (n : ℕ) × (z ≤ℤ pos n)
steps (pos n) = (n, omega (arith, ints))
steps (negsuc n) = (0, omega (arith, ints))

-- what doesn't change from one to the next is the same all along
module _ (value : ℤ → Bool) (lo hi : ℤ) (same : (x : ℤ) → lo <ℤ x → x <ℤ hi → value (x -ℤ pos 1) ≡ value x) where
  go : (n : ℕ) (c : ℤ) → lo ≤ℤ c → c <ℤ hi → (hi -ℤ c) ≤ℤ pos n → value c ≡ value (hi -ℤ pos 1)
  go zero c l h e = absurd (omega (arith, ints))
  go (suc n) c l h e =
      by_lt_z (c +ℤ pos 1) hi
      (λ m.
      let back : c ≡ (c +ℤ pos 1) -ℤ pos 1 = omega (arith, ints) in
      ap value back ∙ (same (c +ℤ pos 1) (omega (arith, ints)) m ∙ go n (c +ℤ pos 1) (omega (arith, ints)) m (omega (arith, ints))))
      (λ m. let last : c ≡ hi -ℤ pos 1 = omega (arith, ints) in ap value last)

  pub same_along : (c : ℤ) → lo ≤ℤ c → c <ℤ hi → value c ≡ value (hi -ℤ pos 1)
  same_along c l h = let s = steps (hi -ℤ c) in go s.0 c l h s.1

module _ (set : Squares) (f : Flip) (wide : f.x0 <ℤ f.x1) (old new : ℤ → Bool) (above : (x : ℤ) → x ≤ℤ f.x1 → set x f.y ≡ old x) (below : (x : ℤ) → (f.x0 -ℤ pos 1) ≤ℤ x → set x (f.y -ℤ pos 1) ≡ new x) (turned : (x : ℤ) → f.x0 ≤ℤ x → x <ℤ f.x1 → old x ≡ not (new x)) (kept_left : (x : ℤ) → x <ℤ f.x0 → old x ≡ new x) (kept_right : (x : ℤ) → f.x1 ≤ℤ x → old x ≡ new x) where
  -- a side that stands above the line: up to its end, and no further
  pub record Stands (u : Upright) : Type 0 where
    pub west : old (u.line -ℤ pos 1) ≡ u.east
    pub here : old u.line ≡ not u.east
    pub high : f.y <ℤ u.top
    pub rows : (row : ℤ) → f.y ≤ℤ row → row <ℤ u.top → (set (u.line -ℤ pos 1) row ≡ u.east) × (set u.line row ≡ not u.east)
    pub ends : set (u.line -ℤ pos 1) u.top ≡ u.east → set u.line u.top ≡ not u.east → ⊥

  -- a side that stands below the line, from it down
  pub record IsMade (u : Upright) : Type 0 where
    pub from : f.x0 ≤ℤ u.line
    pub to : u.line ≤ℤ f.x1
    pub top : u.top ≡ f.y
    pub west : new (u.line -ℤ pos 1) ≡ u.east
    pub here : new u.line ≡ not u.east

  new_is : (x : ℤ) → f.x0 ≤ℤ x → x <ℤ f.x1 → new x ≡ not (old x)
  new_is x p q = sym (not_not (new x)) ∙ ap not (sym (turned x p q))

  gone : (u : Upright) → f.x0 ≤ℤ u.line → u.line ≤ℤ f.x1 → Stands u → set (u.line -ℤ pos 1) (f.y -ℤ pos 1) ≡ u.east → set u.line (f.y -ℤ pos 1) ≡ not u.east → ⊥
  gone u l m st p q =
      by_lt_z f.x0 u.line
      (λ k.
      differs u.east (sym p ∙ (below (u.line -ℤ pos 1) (omega (arith, ints)) ∙ (new_is (u.line -ℤ pos 1) (omega (arith, ints)) (omega (arith, ints)) ∙ ap not st.west))))
      (λ k.
      differs (not u.east) (sym q ∙ (below u.line (omega (arith, ints)) ∙ (new_is u.line l (omega (arith, ints)) ∙ ap not st.here))))

  upright_maximal : (u : Upright) → f.x0 ≤ℤ u.line → u.line ≤ℤ f.x1 → Stands u → IsMaximalRun (boundary set) (upright_run f.y u)
  upright_maximal u l m st =
      record {
        not_empty = st.high;
        inside = λ row p q. upright_unit set u.east u.line row ∙ stands_true set u.east u.line row (st.rows row p q).0 (st.rows row p q).1;
        before = upright_unit set u.east u.line (f.y -ℤ pos 1) ∙ stands_false set u.east u.line (f.y -ℤ pos 1) (gone u l m st);
        after = upright_unit set u.east u.line u.top ∙ stands_false set u.east u.line u.top st.ends;
      }

  level_maximal : (lo hi : ℤ) (inside : Bool) → f.x0 ≤ℤ lo → lo <ℤ hi → hi ≤ℤ f.x1 → ((c : ℤ) → lo ≤ℤ c → c <ℤ hi → old c ≡ inside) → (f.x0 <ℤ lo → old (lo -ℤ pos 1) ≡ not inside) → (hi <ℤ f.x1 → old hi ≡ not inside) → IsMaximalRun (boundary set) (level_run f.y lo hi inside)
  level_maximal lo hi inside l w m all before after =
      record {
        not_empty = w;
        inside = λ c p q.
            level_unit set inside f.y c
            ∙ lies_true set inside f.y c (above c (omega (arith, ints)) ∙ all c p q) (below c (omega (arith, ints)) ∙ (new_is c (omega (arith, ints)) (omega (arith, ints)) ∙ ap not (all c p q)));
        before =
            level_unit set inside f.y (lo -ℤ pos 1)
            ∙ lies_false set inside f.y (lo -ℤ pos 1) (λ p q. by_lt_z f.x0 lo
            (λ k. differs inside (sym p ∙ (above (lo -ℤ pos 1) (omega (arith, ints)) ∙ before k)))
            (λ k.
            differs inside (sym p ∙ (above (lo -ℤ pos 1) (omega (arith, ints)) ∙ (kept_left (lo -ℤ pos 1) (omega (arith, ints)) ∙ (sym (below (lo -ℤ pos 1) (omega (arith, ints))) ∙ q))))));
        after =
            level_unit set inside f.y hi
            ∙ lies_false set inside f.y hi (λ p q. by_lt_z hi f.x1
            (λ k. differs inside (sym p ∙ (above hi m ∙ after k)))
            (λ k. differs inside (sym p ∙ (above hi m ∙ (kept_right hi k ∙ (sym (below hi (omega (arith, ints))) ∙ q))))));
      }

  level_held : (runs : List Run) (lo hi : ℤ) (inside : Bool) → Has runs (level_run f.y lo hi inside) → (c : ℤ) → lo ≤ℤ c → c <ℤ hi → old c ≡ inside → runs_have runs (level_side (old c)) f.y c ≡ true
  level_held runs lo hi inside h c p q e =
      subst (λ b. runs_have runs (level_side b) f.y c ≡ true) (sym e)
      (true_held runs (level_run f.y lo hi inside) (level_side inside) f.y c h (record { one_side = refl; one_line = refl; begins = p; ends = q }))

  -- ---- the walk, left of where it stands

  pub record IsWalked (at : ℤ) (us : List Upright) (runs : List Run) (made : List Upright) : Type 0 where
    pub maximal : AllByRecursion (IsMaximalRun (boundary set)) runs
    pub level : (c : ℤ) → f.x0 ≤ℤ c → c <ℤ at → runs_have runs (level_side (old c)) f.y c ≡ true
    pub uprights : (u : Upright) → Has us u → Has runs (upright_run f.y u)
    pub stand : AllByRecursion IsMade made
    pub lines : AllByRecursion (λ n. n.line <ℤ at) made
    pub descend : Descend made
    pub every : (x : ℤ) → f.x0 ≤ℤ x → x <ℤ at → NoneAt made x → new (x -ℤ pos 1) ≡ new x

  new_same : (x : ℤ) → f.x0 <ℤ x → x <ℤ f.x1 → old (x -ℤ pos 1) ≡ old x → new (x -ℤ pos 1) ≡ new x
  new_same x p q e =
      new_is (x -ℤ pos 1) (omega (arith, ints)) (omega (arith, ints)) ∙ (ap not e ∙ sym (new_is x (omega (arith, ints)) q))

  last_walked : (at : ℤ) (inside b : Bool) → int_lt f.x0 at ≡ b → f.x0 ≤ℤ at → at ≤ℤ f.x1 → ((x : ℤ) → f.x0 ≤ℤ x → x <ℤ at → old (x -ℤ pos 1) ≡ old x) → (f.x0 <ℤ at → old (at -ℤ pos 1) ≡ inside) → (at <ℤ f.x1 → old at ≡ not inside) → IsWalked at [] (cond b (level_run f.y f.x0 at inside ∷ []) []) (cond b (record { line = f.x0; top = f.y; east = inside } ∷ []) [])
  last_walked at inside false e l m gap left after =
      let k : at ≤ℤ f.x0 = le_from_false f.x0 at e in
      record {
        maximal = tt;
        level = λ c p q. absurd (omega (arith, ints));
        uprights = λ u h. absurd h;
        stand = tt;
        lines = tt;
        descend = tt;
        every = λ x p q n. absurd (omega (arith, ints));
      }
  last_walked at inside true e l m gap left after =
      let k : f.x0 <ℤ at = lt_from_true f.x0 at e in
      let all : (c : ℤ) → f.x0 ≤ℤ c → c <ℤ at → old c ≡ inside = λ c p q. same_along old f.x0 at (λ x r s. gap x (omega (arith, ints)) s) c p q ∙ left k in
      record {
        maximal = (level_maximal f.x0 at inside (omega (arith, ints)) k m all (λ o. absurd (omega (arith, ints))) after, tt);
        level = λ c p q. level_held (level_run f.y f.x0 at inside ∷ []) f.x0 at inside (inl refl) c p q (all c p q);
        uprights = λ u h. absurd h;
        stand = (
          record {
            from = omega (arith, ints);
            to = omega (arith, ints);
            top = refl;
            west = sym (kept_left (f.x0 -ℤ pos 1) (omega (arith, ints))) ∙ (gap f.x0 (omega (arith, ints)) k ∙ all f.x0 (omega (arith, ints)) k);
            here = new_is f.x0 (omega (arith, ints)) wide ∙ ap not (all f.x0 (omega (arith, ints)) k);
          },
          tt,
        );
        lines = (k, tt);
        descend = (tt, tt);
        every = λ x p q n. by_lt_z f.x0 x
            (λ r. new_same x r (omega (arith, ints)) (gap x p q))
            (λ r. absurd (n (record { line = f.x0; top = f.y; east = inside }) (inl refl) (omega (arith, ints))));
      }

  up_to_first : (u : Upright) (us : List Upright) → Descend (u ∷ us) → (v : Upright) → Has (u ∷ us) v → v.line ≤ℤ u.line
  up_to_first u us d v h =
      has_holds (λ w. w.line ≤ℤ u.line) (u ∷ us) v (omega (arith, ints), all_weaker (λ w. w.line <ℤ u.line) (λ w. w.line ≤ℤ u.line) (λ w k. omega (arith, ints)) us d.0) h

  -- one more side, given what the walk does left of it
  step_walked : (at : ℤ) (inside b : Bool) (u : Upright) (us : List Upright) (runs : List Run) (made : List Upright) → int_lt f.x0 u.line ≡ b → at ≤ℤ f.x1 → f.x0 ≤ℤ u.line → u.line <ℤ at → Stands u → ((c : ℤ) → u.line ≤ℤ c → c <ℤ at → old c ≡ inside) → ((x : ℤ) → u.line <ℤ x → x <ℤ at → old (x -ℤ pos 1) ≡ old x) → (at <ℤ f.x1 → old at ≡ not inside) → IsWalked u.line us runs made → IsWalked at (u ∷ us) (upright_run f.y u ∷ level_run f.y u.line at inside ∷ runs) (cond b (record { line = u.line; top = f.y; east = not u.east } ∷ made) made)
  step_walked at inside b u us runs made e m l k st all gap after w =
      let is_inside : inside ≡ not u.east = sym (all u.line (omega (arith, ints)) k) ∙ st.here in
      let mine : Upright = record { line = u.line; top = f.y; east = not u.east } in
      record {
        maximal = (
          upright_maximal u l (omega (arith, ints)) st,
          (level_maximal u.line at inside l k m all (λ o. st.west ∙ (sym (not_not u.east) ∙ ap not (sym is_inside))) after, w.maximal),
        );
        level = λ c p q. by_lt_z c u.line
            (λ o.
            or_more (upright_run f.y u) (level_run f.y u.line at inside ∷ runs) c
            (or_more (level_run f.y u.line at inside) runs c (w.level c p o)))
            (λ o. level_held (upright_run f.y u ∷ level_run f.y u.line at inside ∷ runs) u.line at inside (inr (inl refl)) c o q (all c o q));
        uprights = λ v h. elim h [
          | inl s ↦ inl (ap (upright_run f.y) s)
          | inr r ↦ inr (inr (w.uprights v r))
        ];
        stand = kept_all IsMade b mine made (λ t. record {
          from = l;
          to = omega (arith, ints);
          top = refl;
          west =
              let o : f.x0 <ℤ u.line = lt_from_true f.x0 u.line (e ∙ t) in
              new_is (u.line -ℤ pos 1) (omega (arith, ints)) (omega (arith, ints)) ∙ ap not st.west;
          here = new_is u.line l (omega (arith, ints)) ∙ ap not st.here;
        }) w.stand;
        lines = kept_all (λ n. n.line <ℤ at) b mine made (λ t. k) (all_weaker (λ n. n.line <ℤ u.line) (λ n. n.line <ℤ at) (λ n o. omega (arith, ints)) made w.lines);
        descend = kept_descend b mine made w.lines w.descend;
        every = every_of b e;
      }
    where
      or_true : (p : Bool) → (p || true) ≡ true
      or_true true = refl
      or_true false = refl

      or_more : (r : Run) (rs : List Run) (c : ℤ) → runs_have rs (level_side (old c)) f.y c ≡ true → runs_have (r ∷ rs) (level_side (old c)) f.y c ≡ true
      or_more r rs c h = ap (λ p. run_has r (level_side (old c)) f.y c || p) h ∙ or_true (run_has r (level_side (old c)) f.y c)

      kept_all : (P : Upright → Type 0) (b : Bool) (n : Upright) (ns : List Upright) → (b ≡ true → P n) → AllByRecursion P ns → AllByRecursion P (cond b (n ∷ ns) ns)
      kept_all P true n ns p a = (p refl, a)
      kept_all P false n ns p a = a

      kept_descend : (b : Bool) (n : Upright) (ns : List Upright) → AllByRecursion (λ v. v.line <ℤ n.line) ns → Descend ns → Descend (cond b (n ∷ ns) ns)
      kept_descend true n ns a d = (a, d)
      kept_descend false n ns a d = d

      every_of : (b : Bool) → int_lt f.x0 u.line ≡ b → (x : ℤ) → f.x0 ≤ℤ x → x <ℤ at → NoneAt (cond b (record { line = u.line; top = f.y; east = not u.east } ∷ made) made) x → new (x -ℤ pos 1) ≡ new x
      every_of true g x p q n =
          by_lt_z x u.line
          (λ o. w.every x p o (λ v h. n v (inr h)))
          (λ o. by_lt_z u.line x
          (λ r. new_same x (omega (arith, ints)) (omega (arith, ints)) (gap x r q))
          (λ r. absurd (n (record { line = u.line; top = f.y; east = not u.east }) (inl refl) (omega (arith, ints)))))
      every_of false g x p q n =
          let o : u.line ≤ℤ f.x0 = le_from_false f.x0 u.line g in
          by_lt_z x u.line
          (λ r. w.every x p r n)
          (λ r. by_lt_z u.line x
          (λ s. new_same x (omega (arith, ints)) (omega (arith, ints)) (gap x s q))
          (λ s.
          let here : x ≡ u.line = omega (arith, ints) in
          subst (λ z. new (z -ℤ pos 1) ≡ new z) (sym here)
          (sym (kept_left (u.line -ℤ pos 1) (omega (arith, ints)))
          ∙ (st.west
          ∙ (sym (not_not u.east) ∙ (ap not (sym st.here) ∙ sym (new_is u.line l (omega (arith, ints)))))))))

  walked : (at : ℤ) (inside : Bool) (us : List Upright) → f.x0 ≤ℤ at → at ≤ℤ f.x1 → Descend us → AllByRecursion (λ u. f.x0 ≤ℤ u.line) us → AllByRecursion (λ u. u.line <ℤ at) us → AllByRecursion Stands us → ((x : ℤ) → f.x0 ≤ℤ x → x <ℤ at → NoneAt us x → old (x -ℤ pos 1) ≡ old x) → (f.x0 <ℤ at → old (at -ℤ pos 1) ≡ inside) → (at <ℤ f.x1 → old at ≡ not inside) → IsWalked at us (sides_from f at inside us) (below_from f at inside us)
  walked at inside [] l m d from to st gap left after =
      last_walked at inside (int_lt f.x0 at) refl l m (λ x p q. gap x p q (λ u h e. absurd h)) left after
  walked at inside (u ∷ us) l m d from to st gap left after =
      let k : u.line <ℤ at = to.0 in
      let low : f.x0 ≤ℤ u.line = from.0 in
      let between : (x : ℤ) → u.line <ℤ x → x <ℤ at → old (x -ℤ pos 1) ≡ old x = λ x p q. gap x (omega (arith, ints)) q (λ v h e. let o = up_to_first u us d v h in omega (arith, ints)) in
      let all : (c : ℤ) → u.line ≤ℤ c → c <ℤ at → old c ≡ inside = λ c p q. same_along old u.line at between c p q ∙ left (omega (arith, ints)) in
      step_walked at inside (int_lt f.x0 u.line) u us (sides_from f u.line u.east us) (below_from f u.line u.east us) refl m low k st.0 all between after
      (walked u.line u.east us low (omega (arith, ints)) d.1 from.1 d.0 st.1
      (λ x p q n. gap x p (omega (arith, ints)) (λ v h e. elim h [ inl s ↦ let t : u.line ≡ v.line = ap (λ w. w.line) s in omega (arith, ints) | inr r ↦ n v r e ]))
      (λ o. st.0.west) (λ o. st.0.here))

  -- ---- the whole flip

  pub record IsPassed (us : List Upright) (runs : List Run) (made : List Upright) : Type 0 where
    pub maximal : AllByRecursion (IsMaximalRun (boundary set)) runs
    pub level : (c : ℤ) → f.x0 ≤ℤ c → c <ℤ f.x1 → runs_have runs (level_side (old c)) f.y c ≡ true
    pub uprights : (u : Upright) → Has us u → Has runs (upright_run f.y u)
    pub stand : AllByRecursion IsMade made
    pub descend : Descend made
    pub every : (x : ℤ) → f.x0 ≤ℤ x → x ≤ℤ f.x1 → NoneAt made x → new (x -ℤ pos 1) ≡ new x

  -- a side begins at the right end
  from_right : (right : Bool) (us : List Upright) (runs : List Run) (made : List Upright) → old f.x1 ≡ right → old (f.x1 -ℤ pos 1) ≡ right → IsWalked f.x1 us runs made → IsPassed us runs (record { line = f.x1; top = f.y; east = not right } ∷ made)
  from_right right us runs made e g w =
      record {
        maximal = w.maximal;
        level = w.level;
        uprights = w.uprights;
        stand = (
          record {
            from = omega (arith, ints);
            to = omega (arith, ints);
            top = refl;
            west = new_is (f.x1 -ℤ pos 1) (omega (arith, ints)) (omega (arith, ints)) ∙ ap not g;
            here = sym (kept_right f.x1 (omega (arith, ints))) ∙ (e ∙ sym (not_not right));
          },
          w.stand,
        );
        descend = (w.lines, w.descend);
        every = λ x p q n. by_lt_z x f.x1
            (λ o. w.every x p o (λ v h. n v (inr h)))
            (λ o. absurd (n (record { line = f.x1; top = f.y; east = not right }) (inl refl) (omega (arith, ints))));
      }

  -- a side ends at the right end
  to_right : (u : Upright) (us : List Upright) (runs : List Run) (made : List Upright) → u.line ≡ f.x1 → Stands u → IsWalked f.x1 us runs made → IsPassed (u ∷ us) (upright_run f.y u ∷ runs) made
  to_right u us runs made e st w =
      let west : old (f.x1 -ℤ pos 1) ≡ u.east = ap (λ z. old (z -ℤ pos 1)) (sym e) ∙ st.west in
      let here : old f.x1 ≡ not u.east = ap old (sym e) ∙ st.here in
      record {
        maximal = (upright_maximal u (omega (arith, ints)) (omega (arith, ints)) st, w.maximal);
        level = λ c p q. ap (λ b. run_has (upright_run f.y u) (level_side (old c)) f.y c || b) (w.level c p q) ∙ or_true (run_has (upright_run f.y u) (level_side (old c)) f.y c);
        uprights = λ v h. elim h [ inl s ↦ inl (ap (upright_run f.y) s) | inr r ↦ inr (w.uprights v r) ];
        stand = w.stand;
        descend = w.descend;
        every = λ x p q n. by_lt_z x f.x1
            (λ o. w.every x p o n)
            (λ o.
            let at : x ≡ f.x1 = omega (arith, ints) in
            subst (λ z. new (z -ℤ pos 1) ≡ new z) (sym at)
            (new_is (f.x1 -ℤ pos 1) (omega (arith, ints)) (omega (arith, ints)) ∙ (ap not west ∙ (sym here ∙ kept_right f.x1 (omega (arith, ints))))));
      }
    where
      or_true : (p : Bool) → (p || true) ≡ true
      or_true true = refl
      or_true false = refl

  pub passed : (right : Bool) (us : List Upright) → Descend us → AllByRecursion (λ u. f.x0 ≤ℤ u.line) us → AllByRecursion (λ u. u.line ≤ℤ f.x1) us → AllByRecursion Stands us → ((x : ℤ) → f.x0 ≤ℤ x → x ≤ℤ f.x1 → NoneAt us x → old (x -ℤ pos 1) ≡ old x) → old f.x1 ≡ right → IsPassed us (sides_all f right us) (below_all f right us)
  passed right [] d from to st gap e =
      let g : old (f.x1 -ℤ pos 1) ≡ right = gap f.x1 (omega (arith, ints)) (omega (arith, ints)) (λ u h o. absurd h) ∙ e in
      from_right right [] (sides_from f f.x1 right []) (below_from f f.x1 right []) e g
      (walked f.x1 right [] (omega (arith, ints)) (omega (arith, ints)) tt tt tt tt (λ x p q n. gap x p (omega (arith, ints)) n) (λ o. g) (λ o. absurd (omega (arith, ints))))
  passed right (u ∷ us) d from to st gap e = by_end (int_eq u.line f.x1) refl
    where
      by_end : (b : Bool) → int_eq u.line f.x1 ≡ b → IsPassed (u ∷ us) (cond b (upright_run f.y u ∷ sides_from f f.x1 u.east us) (sides_from f f.x1 right (u ∷ us))) (cond b (below_from f f.x1 u.east us) (record { line = f.x1; top = f.y; east = not right } ∷ below_from f f.x1 right (u ∷ us)))
      by_end true t =
          let s : u.line ≡ f.x1 = eq_from_true u.line f.x1 t in
          to_right u us (sides_from f f.x1 u.east us) (below_from f f.x1 u.east us) s st.0
          (walked f.x1 u.east us (omega (arith, ints)) (omega (arith, ints)) d.1 from.1 (all_weaker (λ v. v.line <ℤ u.line) (λ v. v.line <ℤ f.x1) (λ v k. omega (arith, ints)) us d.0) st.1
          (λ x p q n. gap x p (omega (arith, ints)) (λ v h o. elim h [ inl r ↦ let k : u.line ≡ v.line = ap (λ w. w.line) r in omega (arith, ints) | inr r ↦ n v r o ]))
          (λ o. ap (λ z. old (z -ℤ pos 1)) (sym s) ∙ st.0.west)
          (λ o. absurd (omega (arith, ints))))
      by_end false t =
          let k : u.line ≤ℤ f.x1 = to.0 in
          let less : u.line <ℤ f.x1 = by_lt_z u.line f.x1 (λ l. l) (λ l. clash (int_eq u.line f.x1) (eq_true u.line f.x1 (omega (arith, ints))) t) in
          let g : old (f.x1 -ℤ pos 1) ≡ right = gap f.x1 (omega (arith, ints)) (omega (arith, ints)) (λ v h o. let q = up_to_first u us d v h in omega (arith, ints)) ∙ e in
          from_right right (u ∷ us) (sides_from f f.x1 right (u ∷ us)) (below_from f f.x1 right (u ∷ us)) e g
          (walked f.x1 right (u ∷ us) (omega (arith, ints)) (omega (arith, ints)) d from (less, all_weaker (λ v. v.line <ℤ u.line) (λ v. v.line <ℤ f.x1) (λ v k. omega (arith, ints)) us d.0) st
          (λ x p q n. gap x p (omega (arith, ints)) n) (λ o. g) (λ o. absurd (omega (arith, ints))))

-- ---- how a walk begins

pub none_above : (f : Flip) (right : Bool) (above : List Upright) → length above < 1 → (sides_all f right above ≡ sides_from f f.x1 right above) × (below_all f right above ≡ record { line = f.x1; top = f.y; east = not right } ∷ below_from f f.x1 right above)
none_above f right [] l = (refl, refl)
none_above f right (u ∷ us) l = absurd (omega arith)

pub ends_there : (f : Flip) (right : Bool) (above : List Upright) (d : Upright) → 1 ≤ length above → (get_or above 0 d).line ≡ f.x1 → (sides_all f right above ≡ upright_run f.y (get_or above 0 d) ∷ sides_from f f.x1 (get_or above 0 d).east (drop 1 above)) × (below_all f right above ≡ below_from f f.x1 (get_or above 0 d).east (drop 1 above))
ends_there f right [] d l e = absurd (omega arith)
ends_there f right (u ∷ us) d l e = (
  ap (λ b. cond b (upright_run f.y u ∷ sides_from f f.x1 u.east us) (sides_from f f.x1 right (u ∷ us))) (eq_true u.line f.x1 e),
  ap (λ b. cond b (below_from f f.x1 u.east us) (record { line = f.x1; top = f.y; east = not right } ∷ below_from f f.x1 right (u ∷ us))) (eq_true u.line f.x1 e),
)

pub begins_there : (f : Flip) (right : Bool) (above : List Upright) (d : Upright) → 1 ≤ length above → ((get_or above 0 d).line ≡ f.x1 → ⊥) → (sides_all f right above ≡ sides_from f f.x1 right above) × (below_all f right above ≡ record { line = f.x1; top = f.y; east = not right } ∷ below_from f f.x1 right above)
begins_there f right [] d l n = absurd (omega arith)
begins_there f right (u ∷ us) d l n = (
  ap (λ b. cond b (upright_run f.y u ∷ sides_from f f.x1 u.east us) (sides_from f f.x1 right (u ∷ us))) (eq_false u.line f.x1 n),
  ap (λ b. cond b (below_from f f.x1 u.east us) (record { line = f.x1; top = f.y; east = not right } ∷ below_from f f.x1 right (u ∷ us))) (eq_false u.line f.x1 n),
)

-- ---- one side more

pub below_more : (f : Flip) (at : ℤ) (inside : Bool) (u : Upright) (rest old new : List Upright) → f.x0 <ℤ u.line → new ≡ old ++ record { line = u.line; top = f.y; east = not u.east } ∷ [] → new ++ below_from f u.line u.east rest ≡ old ++ below_from f at inside (u ∷ rest)
below_more f at inside u rest old new l e =
    let mine : Upright = record { line = u.line; top = f.y; east = not u.east } in
    let left = below_from f u.line u.east rest in
    ap (λ us. us ++ left) e
    ∙ (append_assoc old (mine ∷ []) left ∙ ap (λ us. old ++ us) (sym (ap (λ b. cond b (mine ∷ left) left) (lt_true f.x0 u.line l))))

pub sides_more : (f : Flip) (at : ℤ) (inside : Bool) (u : Upright) (rest : List Upright) (old new : List Run) → new ≡ old ++ upright_run f.y u ∷ level_run f.y u.line at inside ∷ [] → new ++ sides_from f u.line u.east rest ≡ old ++ sides_from f at inside (u ∷ rest)
sides_more f at inside u rest old new e =
    ap (λ rs. rs ++ sides_from f u.line u.east rest) e
    ∙ append_assoc old (upright_run f.y u ∷ level_run f.y u.line at inside ∷ []) (sides_from f u.line u.east rest)
