-- The lines of flips: what is left of the flips above a line, and where no square is.
use Rattle.std.proofs.Common.{◌≡◌, Bool, true, false, ◌&&◌, cond, inl, inr, ℕ, zero, suc, ◌<◌, ◌≤◌, length, drop, get_or, pos, ℤ, ◌<ℤ◌, ◌≤ℤ◌, ◌-ℤ◌, int_le, Some, List, [], ◌∷◌, refl, sym, subst, ap, ◌∙◌, arith}
use Rattle.std.proofs.lemmas.Int.{ints, by_lt_z}
use Rattle.std.proofs.lemmas.List.{drop_more}
use Rattle.list_facts.proofs.EitherOr.{one_from_right_false}
use Rattle.list_facts.proofs.Tests.{le_false, le_true}
use Rattle.list_facts.specs.EitherOr.{exactly_one}
use Rattle.interval_row.specs.Rows.{has}
use Rattle.region_form.specs.declared.flip.Flip.{Flip}
use Rattle.region_form.specs.Flips.{changes, squares, AreSorted, StandsBeforeFirst, AreBelow}
use Rattle.region_form.specs.Climbs.{Standpoint, IsStandpoint, ahead, first_line, flips_above, LiesBelow}

lies_lower : (f : Flip) (fs : List Flip) (y : ℤ) → StandsBeforeFirst f fs → y <ℤ f.y → LiesBelow y (first_line fs)
lies_lower f [] y s b = tt
lies_lower f (g ∷ gs) y s b = elim s [ inl l ↦ omega (arith, ints) | inr e ↦ let q : f.y ≡ g.y = e.0 in omega (arith, ints) ]

unchanged : (p q r : Bool) → p ≡ false → exactly_one (p && q) r ≡ r
unchanged false q true e = refl
unchanged false q false e = refl
unchanged true q r e = absurd (mathlib.Core.Bool.true≢false e)

-- below the first line there is no square
pub none_below_line : (fs : List Flip) (x y : ℤ) → AreSorted fs → LiesBelow y (first_line fs) → squares fs x y ≡ false
none_below_line [] x y s b = refl
none_below_line (f ∷ fs) x y s b =
    unchanged (int_le f.y y) (changes f x) (squares fs x y) (le_false f.y y b)
    ∙ none_below_line fs x y s.2 (lies_lower f fs y s.1 b)

-- what a climb sees below the next line is its row
pub seen_row : (place : Standpoint) (next : _) (x y : ℤ) → next ≡ first_line place.flips → IsStandpoint place → LiesBelow y next → ahead place x y ≡ has place.row x
seen_row place next x y e p b =
    one_from_right_false (has place.row x) (squares place.flips x y) (none_below_line place.flips x y p.sorted (subst (LiesBelow y) e b))

-- no flip lies below the line
abbrev pub StandsFrom : ℤ → List Flip → Type 0
StandsFrom line [] = Unit {0}
StandsFrom line (f ∷ fs) = line ≤ℤ f.y

-- where each row below a line lies below the first flip, no flip lies below the line
pub from_next : (line : ℤ) (fs : List Flip) → ((y : ℤ) → y <ℤ line → LiesBelow y (first_line fs)) → StandsFrom line fs
from_next line [] h = tt
from_next line (f ∷ fs) h =
    let k : (line -ℤ pos 1) <ℤ f.y = h (line -ℤ pos 1) (omega (arith, ints)) in
    omega (arith, ints)

-- what follows a flip lies no lower than it
pub from_rest : (line : ℤ) (f : Flip) (fs : List Flip) → StandsBeforeFirst f fs → line ≤ℤ f.y → StandsFrom line fs
from_rest line f [] s h = tt
from_rest line f (g ∷ gs) s h =
    elim s [ inl l ↦ omega (arith, ints) | inr e ↦ let q : f.y ≡ g.y = e.0 in omega (arith, ints) ]

-- a flip on or below the line is left out
pub above_below : (line : ℤ) (f : Flip) (fs : List Flip) → f.y ≤ℤ line → flips_above line (f ∷ fs) ≡ flips_above line fs
above_below line f fs h = ap (λ b. cond b (flips_above line fs) (f ∷ fs)) (le_true f.y line h)

-- a flip above the line is the first that is left
pub above_above : (line : ℤ) (f : Flip) (fs : List Flip) → line <ℤ f.y → flips_above line (f ∷ fs) ≡ f ∷ fs
above_above line f fs h = ap (λ b. cond b (flips_above line fs) (f ∷ fs)) (le_false f.y line h)

-- the flips above a line are sorted
pub sorted_above : (line : ℤ) (fs : List Flip) → AreSorted fs → AreSorted (flips_above line fs)
sorted_above line [] s = tt
sorted_above line (f ∷ fs) s =
    by_lt_z line f.y
    (λ l. subst AreSorted (sym (above_above line f fs l)) s)
    (λ l. subst AreSorted (sym (above_below line f fs l)) (sorted_above line fs s.2))

-- the next line lies above the one that was passed
pub lies_above : (line : ℤ) (fs : List Flip) → LiesBelow line (first_line (flips_above line fs))
lies_above line [] = tt
lies_above line (f ∷ fs) =
    by_lt_z line f.y
    (λ l. subst (λ gs. LiesBelow line (first_line gs)) (sym (above_above line f fs l)) l)
    (λ l. subst (λ gs. LiesBelow line (first_line gs)) (sym (above_below line f fs l)) (lies_above line fs))

-- passing a line leaves no more flips than there were
pub no_more_above : (line : ℤ) (fs : List Flip) → length (flips_above line fs) ≤ length fs
no_more_above line [] = omega arith
no_more_above line (f ∷ fs) =
    by_lt_z line f.y
    (λ l. subst (λ gs. length gs ≤ length (f ∷ fs)) (sym (above_above line f fs l)) (omega arith))
    (λ l. subst (λ gs. length gs ≤ length (f ∷ fs)) (sym (above_below line f fs l)) (omega (arith, no_more_above line fs)))

-- a line below the next one passes no flip
pub none_passed : (line : ℤ) (fs : List Flip) → LiesBelow line (first_line fs) → flips_above line fs ≡ fs
none_passed line [] b = refl
none_passed line (f ∷ fs) b = above_above line f fs b

-- passing the next line leaves fewer, which is the measure of a loop over lines
pub fewer_above : (line : ℤ) (fs : List Flip) → first_line fs ≡ Some line → length (flips_above line fs) < length fs
fewer_above line [] e = cc
fewer_above line (f ∷ fs) e =
    let q : f.y ≡ line = cc in
    subst (λ gs. length gs < length (f ∷ fs)) (sym (above_below line f fs (omega (arith, ints)))) (omega (arith, no_more_above line fs))

-- between two lines no square changes
pub same_between : (line : ℤ) (fs : List Flip) (x y : ℤ) → AreSorted fs → line ≤ℤ y → LiesBelow y (first_line (flips_above line fs)) → squares fs x y ≡ squares fs x line
same_between line [] x y s h b = refl
same_between line (f ∷ fs) x y s h b =
    by_lt_z line f.y
    (λ l.
    let k : y <ℤ f.y = subst (λ gs. LiesBelow y (first_line gs)) (above_above line f fs l) b in
    none_below_line (f ∷ fs) x y s k ∙ sym (none_below_line (f ∷ fs) x line s l))
    (λ l.
    let k = subst (λ gs. LiesBelow y (first_line gs)) (above_below line f fs l) b in
    ap (λ q. exactly_one (q && changes f x) (squares fs x y)) (le_true f.y y (omega (arith, ints)) ∙ sym (le_true f.y line l))
    ∙ ap (exactly_one (int_le f.y line && changes f x)) (same_between line fs x y s.2 h k))

-- flips below a line lie below each higher line
pub below_up : (p q : ℤ) (fs : List Flip) → p ≤ℤ q → AreBelow p fs → AreBelow q fs
below_up p q [] h b = tt
below_up p q (f ∷ fs) h b = let k : f.y <ℤ p = b.0 in (omega (arith, ints), below_up p q fs h b.1)

-- sorted flips are sorted from each of them on
pub sorted_drop : (i : ℕ) (fs : List Flip) → AreSorted fs → AreSorted (drop i fs)
sorted_drop zero fs s = s
sorted_drop (suc i) [] s = tt
sorted_drop (suc i) (f ∷ fs) s = sorted_drop i fs s.2

-- from a flip on that lies above a row, no flip counts there
pub none_from : (fs : List Flip) (i : ℕ) (d : Flip) (x y : ℤ) → AreSorted fs → i < length fs → y <ℤ (get_or fs i d).y → squares (drop i fs) x y ≡ false
none_from fs i d x y s l h =
    let e = drop_more fs i d l in
    none_below_line (drop i fs) x y (sorted_drop i fs s) (subst (λ gs. LiesBelow y (first_line gs)) (sym e) h)
