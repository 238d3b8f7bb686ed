-- Flips in order: each stands before all behind it. And how far flips reach.
use Rattle.std.proofs.Common.{◌≡◌, inl, inr, cond, ℤ, ◌<ℤ◌, ◌≤ℤ◌, int_le, List, [], ◌∷◌, ◌++◌, sym, subst, ◌∙◌, arith}
use Rattle.std.proofs.lemmas.Int.{ints, by_lt_z}
use Rattle.std.specs.List.{AllByRecursion}
use Rattle.list_facts.proofs.Members.{all_weaker}
use Rattle.list_facts.proofs.Tests.{le_false, le_true}
use Rattle.region_form.specs.declared.flip.Flip.{Flip}
use Rattle.region_form.specs.Flips.{AreSorted, StandsBefore}

-- what stands behind a flip stands behind each that stands before it
stand_on : (f g : Flip) (gs : List Flip) → StandsBefore f g → g.x0 <ℤ g.x1 → AllByRecursion (StandsBefore g) gs → AllByRecursion (StandsBefore f) gs
stand_on f g gs s w a =
    all_weaker (StandsBefore g) (StandsBefore f) (λ h k. elim s [
      | inl l ↦ inl (elim k [ inl m ↦ omega (arith, ints) | inr e ↦ let q : g.y ≡ h.y = e.0 in omega (arith, ints) ])
      | inr e ↦
          let q : f.y ≡ g.y = e.0 in
          elim k [
            | inl m ↦ inl (omega (arith, ints))
            | inr o ↦ inr (e.0 ∙ o.0, let a : f.x1 <ℤ g.x0 = e.1 in let b : g.x1 <ℤ h.x0 = o.1 in omega (arith, ints))
          ]
    ]) gs a

-- the first of sorted flips stands before all behind it
pub all_behind : (f : Flip) (fs : List Flip) → AreSorted (f ∷ fs) → AllByRecursion (StandsBefore f) fs
all_behind f [] s = tt
all_behind f (g ∷ gs) s = (s.1, stand_on f g gs s.1 s.2.0 (all_behind g gs s.2))

-- sorted flips are sorted from each place on
pub sorted_behind : (o a : List Flip) → AreSorted (o ++ a) → AreSorted a
sorted_behind [] a s = s
sorted_behind (h ∷ o) a s = sorted_behind o a s.2

-- ---- how far flips reach

-- the farthest of a and the columns at which the flips end
abbrev pub far_end : List Flip → ℤ → ℤ
far_end [] a = a
far_end (g ∷ gs) a = cond (int_le g.x1 (far_end gs a)) (far_end gs a) g.x1

farther : (g : Flip) (x : ℤ) → (x ≤ℤ cond (int_le g.x1 x) x g.x1) × (g.x1 ≤ℤ cond (int_le g.x1 x) x g.x1)
farther g x =
    by_lt_z x g.x1
    (λ l. subst (λ b. (x ≤ℤ cond b x g.x1) × (g.x1 ≤ℤ cond b x g.x1)) (sym (le_false g.x1 x l)) (omega (arith, ints), omega (arith, ints)))
    (λ l. subst (λ b. (x ≤ℤ cond b x g.x1) × (g.x1 ≤ℤ cond b x g.x1)) (sym (le_true g.x1 x l)) (omega (arith, ints), l))

-- no flip ends past it, and it doesn't lie before a
pub all_nearer : (gs : List Flip) (a : ℤ) → AllByRecursion (λ g. g.x1 ≤ℤ far_end gs a) gs × (a ≤ℤ far_end gs a)
all_nearer [] a = (tt, omega (arith, ints))
all_nearer (g ∷ gs) a =
    let rest = all_nearer gs a in
    let step = farther g (far_end gs a) in
    let k : a ≤ℤ far_end gs a = rest.1 in
    let m : far_end gs a ≤ℤ far_end (g ∷ gs) a = step.0 in
    ((step.1, all_weaker (λ h. h.x1 ≤ℤ far_end gs a) (λ h. h.x1 ≤ℤ far_end (g ∷ gs) a) (λ h o. omega (arith, ints)) gs rest.0), omega (arith, ints))
