-- The steps of an outline, point by point; they are wide, and no more than its points.
use Rattle.std.proofs.Common.{◌≡◌, refl, sym, ◌∙◌, ap, ℕ, suc, ◌≤◌, Bool, true, false, cond, ◌&&◌, ℤ, ◌<ℤ◌, int_lt, int_le, List, [], ◌∷◌, ◌++◌, length, append_assoc, arith}
use Rattle.list_facts.proofs.Tests.{lt_from_true}
use Rattle.drc_geom.specs.declared.point.Pt.{Pt}
use Rattle.region_form.specs.declared.flip.Flip.{Flip}
use Rattle.region_form.specs.Flips.{changes}
use Rattle.region_sweep.specs.Counts.{AreWide, times_up_to}
use Rattle.region_sweep.proofs.Remainders.{few_more}
use Rattle.gds_polygon.specs.Working.Steps.{step, steps_of}

-- ---- They are wide

wide_if : (b : Bool) (f : Flip) (fs : List Flip) → (b ≡ true → f.x0 <ℤ f.x1) → AreWide fs → AreWide (cond b (f ∷ []) [] ++ fs)
wide_if true f fs h a = (h refl, a)
wide_if false f fs h a = a

pub steps_wide : (east : Bool) (points : List Pt) → AreWide (steps_of east points)
steps_wide east [] = tt
steps_wide east (a ∷ []) = tt
steps_wide true (a ∷ b ∷ points) = wide_if (int_lt a.x b.x) _ (steps_of true (b ∷ points)) (lt_from_true a.x b.x) (steps_wide true (b ∷ points))
steps_wide false (a ∷ b ∷ points) = wide_if (int_lt b.x a.x) _ (steps_of false (b ∷ points)) (lt_from_true b.x a.x) (steps_wide false (b ∷ points))

-- ---- They are few

few_if : (b : Bool) (f : Flip) (fs : List Flip) (n : ℕ) → length fs ≤ n → length (cond b (f ∷ []) [] ++ fs) ≤ suc n
few_if true f fs n l = omega arith
few_if false f fs n l = omega arith

pub steps_few : (east : Bool) (points : List Pt) → length (steps_of east points) ≤ length points
steps_few east [] = omega arith
steps_few east (a ∷ []) = omega arith
steps_few true (a ∷ b ∷ points) = few_if (int_lt a.x b.x) _ (steps_of true (b ∷ points)) (length (b ∷ points)) (steps_few true (b ∷ points))
steps_few false (a ∷ b ∷ points) = few_if (int_lt b.x a.x) _ (steps_of false (b ∷ points)) (length (b ∷ points)) (steps_few false (b ∷ points))

pub up_to_few : (fs : List Flip) (x y : ℤ) → times_up_to fs x y ≤ length fs
up_to_few [] x y = omega arith
up_to_few (f ∷ fs) x y = few_more (int_le f.y y && changes f x) (times_up_to fs x y) (length fs) (up_to_few fs x y)

-- ---- One step more

pub some_step : (steps : List Flip) (east : Bool) (a b : Pt) (rest : List Pt) (f : Flip) → step east a b ≡ f ∷ [] → (steps ++ f ∷ []) ++ steps_of east (b ∷ rest) ≡ steps ++ steps_of east (a ∷ b ∷ rest)
some_step steps east a b rest f is =
    append_assoc steps (f ∷ []) (steps_of east (b ∷ rest)) ∙ ap (λ those. steps ++ (those ++ steps_of east (b ∷ rest))) (sym is)

pub no_step : (steps : List Flip) (east : Bool) (a b : Pt) (rest : List Pt) → step east a b ≡ [] → steps ++ steps_of east (b ∷ rest) ≡ steps ++ steps_of east (a ∷ b ∷ rest)
no_step steps east a b rest is = ap (λ those. steps ++ (those ++ steps_of east (b ∷ rest))) (sym is)
