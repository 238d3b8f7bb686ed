-- One pass over placed pieces, which takes each into the run before it where they meet: the units stay, and gaps are left.
use Rattle.std.proofs.Common.{◌≡◌, Bool, true, false, ◌&&◌, ◌||◌, ◌==◌, inl, inr, if◌then◌else◌, ℤ, ◌<ℤ◌, ◌≤ℤ◌, int_le, MatchBool, List, [], ◌∷◌, refl, sym, ap, subst, ◌∙◌, arith, eq-eqb}
use Rattle.std.proofs.lemmas.Bool.{and_from, eqb-true}
use Rattle.std.proofs.lemmas.Int.{ints, by_lt_z}
use Rattle.std.specs.Cmp.{first_so, second_so}
use Rattle.std.specs.List.{AllByRecursion}
use Rattle.std.specs.List.Retain.{IsDeduped, DedupsFrom}
use Rattle.std.specs.Ordering.{int_eq}
use Rattle.list_facts.proofs.Tests.{clash, eq_from_true, eq_true, le_false, le_from_true, le_true}
use Rattle.drc_geom.specs.declared.unit.Side.{Side}
use Rattle.drc_geom.specs.declared.run.Run.{Run}
use Rattle.drc_geom.specs.Runs.{IsRun, run_has, runs_have, side_rank}
use Rattle.drc_geom.specs.RunOrder.{same_side}
use Rattle.drc_geom.proofs.RunUnits.{IsOn, IsHeld, held_same}
use Rattle.edge_form.specs.Working.Gathering.{meets, further, joined, IsSpaced, AreSpaced}
use Rattle.edge_form.proofs.PieceOrder.{Lower, lower_map, lower_here, IsNotBehind, AreInOrder, not_behind_trans}

-- ---- the further of two columns

further_up : (a b : ℤ) → a ≤ℤ b → further a b ≡ b
further_up a b h = ap (λ t. if t then b else a) (le_true a b h)

further_down : (a b : ℤ) → b <ℤ a → further a b ≡ a
further_down a b h = ap (λ t. if t then b else a) (le_false a b h)

further_left : (a b : ℤ) → a ≤ℤ further a b
further_left a b = by_lt_z b a (λ l. let e = further_down a b l in omega (arith, ints)) (λ l. let e = further_up a b l in omega (arith, ints))

further_right : (a b : ℤ) → b ≤ℤ further a b
further_right a b = by_lt_z b a (λ l. let e = further_down a b l in omega (arith, ints)) (λ l. let e = further_up a b l in omega (arith, ints))

further_least : (a b c : ℤ) → c <ℤ further a b → a ≤ℤ c → c <ℤ b
further_least a b c h k = by_lt_z b a (λ l. let e = further_down a b l in omega (arith, ints)) (λ l. let e = further_up a b l in omega (arith, ints))

-- ---- a piece that meets the run, and one that doesn't

-- the piece x lies on the line of the run k, and begins in it or at its end
record Touches (k x : Run) : Type 0 where
  one_side : x.side ≡ k.side
  one_line : x.line ≡ k.line
  begins : k.lo ≤ℤ x.lo
  within : x.lo ≤ℤ k.hi

touches_from_meets : (k x : Run) → IsNotBehind k x → meets k x ≡ true → Touches k x
touches_from_meets k x p e =
    let f = first_so ((side_rank k.side == side_rank x.side) && int_eq k.line x.line) (int_le x.lo k.hi) e in
    let s = eqb-true _ _ (first_so (side_rank k.side == side_rank x.side) (int_eq k.line x.line) f) in
    let l = eq_from_true k.line x.line (second_so (side_rank k.side == side_rank x.side) (int_eq k.line x.line) f) in
    record {
      one_side = sym (same_side k.side x.side s);
      one_line = sym l;
      begins = lower_here _ _ _ _ _ p s l;
      within = le_from_true x.lo k.hi (second_so ((side_rank k.side == side_rank x.side) && int_eq k.line x.line) (int_le x.lo k.hi) e);
    }

spaced_unless_meets : (k x : Run) → IsNotBehind k x → meets k x ≡ false → IsSpaced k x
spaced_unless_meets k x p e =
    lower_map _ _ _ _ _ (k.hi <ℤ x.lo) p (λ s l b.
    by_lt_z k.hi x.lo (λ h. h) (λ h.
    clash (meets k x) (and_from _ _ (and_from _ _ (eq-eqb _ _ s) (eq_true k.line x.line l)) (le_true x.lo k.hi h)) e))

module _ (k x : Run) (xs : List Run) (t : Touches k x) (side : Side) (line column : ℤ) where
  in_parts : IsOn (joined k x) side line column → IsHeld (k ∷ x ∷ xs) side line column
  in_parts on =
      let a : k.lo ≤ℤ column = on.begins in
      let b : column <ℤ further k.hi x.hi = on.ends in
      let c : x.lo ≤ℤ k.hi = t.within in
      by_lt_z column k.hi
      (λ l. record { run = k; listed = inl refl; on = record { one_side = on.one_side; one_line = on.one_line; begins = a; ends = l } })
      (λ l. record { run = x; listed = inr (inl refl); on = record { one_side = t.one_side ∙ on.one_side; one_line = t.one_line ∙ on.one_line; begins = omega (arith, ints); ends = further_least k.hi x.hi column b l } })

  apart_held : IsHeld (joined k x ∷ xs) side line column → IsHeld (k ∷ x ∷ xs) side line column
  apart_held h =
      elim h.listed [
        | inl e ↦ in_parts (subst (λ r. IsOn r side line column) (sym e) h.on)
        | inr m ↦ record { run = h.run; listed = inr (inr m); on = h.on }
      ]

  in_run : IsOn k side line column → IsHeld (joined k x ∷ xs) side line column
  in_run on =
      let b : column <ℤ k.hi = on.ends in
      let c = further_left k.hi x.hi in
      record { run = joined k x; listed = inl refl; on = record { one_side = on.one_side; one_line = on.one_line; begins = on.begins; ends = omega (arith, ints) } }

  in_piece : IsOn x side line column → IsHeld (joined k x ∷ xs) side line column
  in_piece on =
      let a : x.lo ≤ℤ column = on.begins in
      let b : column <ℤ x.hi = on.ends in
      let c = further_right k.hi x.hi in
      let d : k.lo ≤ℤ x.lo = t.begins in
      record { run = joined k x; listed = inl refl; on = record { one_side = sym t.one_side ∙ on.one_side; one_line = sym t.one_line ∙ on.one_line; begins = omega (arith, ints); ends = omega (arith, ints) } }

  joined_held : IsHeld (k ∷ x ∷ xs) side line column → IsHeld (joined k x ∷ xs) side line column
  joined_held h =
      elim h.listed [
        | inl e ↦ in_run (subst (λ r. IsOn r side line column) (sym e) h.on)
        | inr m ↦ elim m [
          | inl e ↦ in_piece (subst (λ r. IsOn r side line column) (sym e) h.on)
          | inr n ↦ record { run = h.run; listed = inr n; on = h.on }
        ]
      ]

  joined_units : runs_have (joined k x ∷ xs) side line column ≡ runs_have (k ∷ x ∷ xs) side line column
  joined_units = held_same (joined k x ∷ xs) (k ∷ x ∷ xs) side line column apart_held joined_held

joined_run : (k x : Run) → IsRun k → IsRun (joined k x)
joined_run k x h = let a : k.lo <ℤ k.hi = h in let b = further_left k.hi x.hi in omega (arith, ints)

joined_in_order : (k x : Run) (xs : List Run) → IsNotBehind k x → AreInOrder (x ∷ xs) → AreInOrder (joined k x ∷ xs)
joined_in_order k x [] p h = tt
joined_in_order k x (y ∷ xs) p h = (not_behind_trans k x y p h.0, h.1)

rest_in_order : (x : Run) (xs : List Run) → AreInOrder (x ∷ xs) → AreInOrder xs
rest_in_order x [] h = tt
rest_in_order x (y ∷ xs) h = h.1

-- ---- the pass

-- the list begins where the run does
abbrev BeginsAs : Run → List Run → Type 0
BeginsAs k [] = Unit {0}
BeginsAs k (y ∷ ys) = (k.side ≡ y.side) × (k.line ≡ y.line) × (k.lo ≡ y.lo)

spaced_more : (k x : Run) (ys : List Run) → IsSpaced k x → BeginsAs x ys → AreSpaced ys → AreSpaced (k ∷ ys)
spaced_more k x [] h b s = tt
spaced_more k x (y ∷ ys) h b s =
    let h1 : Lower (side_rank k.side) k.line (side_rank y.side) x.line (k.hi <ℤ x.lo) = subst (λ t. Lower (side_rank k.side) k.line (side_rank t) x.line (k.hi <ℤ x.lo)) b.0 h in
    let h2 : Lower (side_rank k.side) k.line (side_rank y.side) y.line (k.hi <ℤ x.lo) = subst (λ t. Lower (side_rank k.side) k.line (side_rank y.side) t (k.hi <ℤ x.lo)) b.1 h1 in
    let h3 : Lower (side_rank k.side) k.line (side_rank y.side) y.line (k.hi <ℤ y.lo) = subst (λ t. Lower (side_rank k.side) k.line (side_rank y.side) y.line (k.hi <ℤ t)) b.2 h2 in
    (h3, s)

-- ys are the pieces xs, joined
pub record IsGathered (xs ys : List Run) : Type 0 where
  pub units : (side : Side) (line column : ℤ) → runs_have ys side line column ≡ runs_have xs side line column
  pub not_empty : AllByRecursion IsRun ys
  pub spaced : AreSpaced ys

record IsGatheredFrom (k : Run) (xs ys : List Run) : Type 0 where
  gathered : IsGathered (k ∷ xs) ys
  begins : BeginsAs k ys

-- what one step of the pass does at a piece x behind the run k
pub record Takes (x k : Run) (b : Bool) (x' k' : Run) : Type 0 where
  pub told : b ≡ meets k x
  pub piece : x' ≡ x
  pub run : k' ≡ (if b then joined k x else k)

module _ {F : Type 0} (R : F → Run → Run → Bool → F → Run → Run → Type 0) (takes : (f : F) (x k : Run) (b : Bool) (g : F) (x' k' : Run) → R f x k b g x' k' → Takes x k b x' k') where
  step : (k x : Run) (xs ys : List Run) (g : F) (b : Bool) (x' k' : Run) → IsRun k → IsRun x → IsNotBehind k x → AreInOrder (x ∷ xs) → Takes x k b x' k' → ((f : F) (k : Run) (ys : List Run) → IsRun k → AreInOrder (k ∷ xs) → DedupsFrom R f k xs ys → IsGatheredFrom k xs ys) → MatchBool b (DedupsFrom R g k' xs ys) ((zs : List Run) × DedupsFrom R g x' xs zs × (ys ≡ k' ∷ zs)) → IsGatheredFrom k (x ∷ xs) ys
  step k x xs ys g true x' k' r q p h t rest m =
      let touch = touches_from_meets k x p (sym t.told) in
      let i = rest g (joined k x) ys (joined_run k x r) (joined_in_order k x xs p h) (subst (λ u. DedupsFrom R g u xs ys) t.run m) in
      record {
        gathered = record {
          units = λ side line column. i.gathered.units side line column ∙ joined_units k x xs touch side line column;
          not_empty = i.gathered.not_empty;
          spaced = i.gathered.spaced;
        };
        begins = i.begins;
      }
  step k x xs ys g false x' k' r q p h t rest m =
      let zs : List Run = m.0 in
      let i = rest g x zs q h (subst (λ u. DedupsFrom R g u xs zs) t.piece m.1) in
      let e : ys ≡ k ∷ zs = m.2 ∙ ap (λ u. u ∷ zs) t.run in
      let s = spaced_unless_meets k x p (sym t.told) in
      let all : IsGatheredFrom k (x ∷ xs) (k ∷ zs) = record {
        gathered = record {
          units = λ side line column. ap (λ u. run_has k side line column || u) (i.gathered.units side line column);
          not_empty = (r, i.gathered.not_empty);
          spaced = spaced_more k x zs s i.begins i.gathered.spaced;
        };
        begins = (refl, refl, refl);
      } in
      subst (IsGatheredFrom k (x ∷ xs)) (sym e) all

  pass : (xs : List Run) (f : F) (k : Run) (ys : List Run) → AllByRecursion IsRun xs → IsRun k → AreInOrder (k ∷ xs) → DedupsFrom R f k xs ys → IsGatheredFrom k xs ys
  pass [] f k ys a r h d =
      let one : IsGatheredFrom k [] (k ∷ []) = record { gathered = record { units = λ side line column. refl; not_empty = (r, tt); spaced = tt }; begins = (refl, refl, refl) } in
      subst (IsGatheredFrom k []) (sym d) one
  pass (x ∷ xs) f k ys a r h d =
      step k x xs ys d.1 d.0 d.2 d.3 r a.0 h.0 h.1 (takes f x k d.0 d.1 d.2 d.3 d.4) (λ g l zs. pass xs g l zs a.1) d.5

  all : (f : F) (xs ys : List Run) → AllByRecursion IsRun xs → AreInOrder xs → IsDeduped R f xs ys → IsGathered xs ys
  all f [] ys a h d =
      let none : IsGathered [] [] = record { units = λ side line column. refl; not_empty = tt; spaced = tt } in
      subst (IsGathered []) (sym d.told) none
  all f (x ∷ xs) ys a h d = (pass xs f x ys a.1 a.0 h d.told).gathered

pub gathered : {F : Type 0} (R : F → Run → Run → Bool → F → Run → Run → Type 0) → ((f : F) (x k : Run) (b : Bool) (g : F) (x' k' : Run) → R f x k b g x' k' → Takes x k b x' k') → (f : F) (xs ys : List Run) → AllByRecursion IsRun xs → AreInOrder xs → IsDeduped R f xs ys → IsGathered xs ys
gathered R takes = all R takes
