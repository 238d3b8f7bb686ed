-- Two steps of one direction make a step of this direction.
use Rattle.std.proofs.Common.{◌≡◌, refl, sym, ap, ◌∙◌, subst, Bool, true, false, cond, ℤ, int_lt, ◌<ℤ◌, ◌≤ℤ◌, arith}
use Rattle.std.proofs.lemmas.Int.{ints}
use Rattle.std.specs.Ordering.{int_eq}
use Rattle.list_facts.proofs.Tests.{by_test, clash, eq_from_true, eq_true, eq_false, le_from_false, lt_false, lt_from_true, lt_true}
use Rattle.drc_geom.specs.declared.point.Pt.{Pt}
use Rattle.drc_geom.specs.declared.unit.Side.{Side}
use Rattle.drc_geom.specs.declared.unit.Side.TheVariants.{N, E, S, W}
use Rattle.gds_path.specs.Paths.{heading}

-- what a direction says of a and b
abbrev Heads : Side → (a b : Pt) → Type 0
Heads E a b = (a.y ≡ b.y) × (a.x <ℤ b.x)
Heads W a b = (a.y ≡ b.y) × (b.x ≤ℤ a.x)
Heads N a b = a.y <ℤ b.y
Heads S a b = b.y <ℤ a.y

differ : (x y : ℤ) → int_eq x y ≡ false → y ≤ℤ x → y <ℤ x
differ x y e l = by_test (int_lt y x) (lt_from_true y x) (λ f. clash (int_eq x y) (eq_true x y (let m : x ≤ℤ y = le_from_false y x f in omega (arith, ints))) e)

heads_by : (level right up : Bool) (a b : Pt) → int_eq a.y b.y ≡ level → int_lt a.x b.x ≡ right → int_lt a.y b.y ≡ up
    → Heads (cond level (cond right E W) (cond up N S)) a b
heads_by true true up a b e f g = (eq_from_true a.y b.y e, lt_from_true a.x b.x f)
heads_by true false up a b e f g = (eq_from_true a.y b.y e, le_from_false a.x b.x f)
heads_by false right true a b e f g = lt_from_true a.y b.y g
heads_by false right false a b e f g = differ a.y b.y e (le_from_false a.y b.y g)

heads_from : (a b : Pt) → Heads (heading a b) a b
heads_from a b = heads_by (int_eq a.y b.y) (int_lt a.x b.x) (int_lt a.y b.y) a b refl refl refl

heads_to : (s : Side) (a b : Pt) → Heads s a b → heading a b ≡ s
heads_to E a b h = ap (λ level. cond level (cond (int_lt a.x b.x) E W) (cond (int_lt a.y b.y) N S)) (eq_true a.y b.y h.0) ∙ ap (λ right. cond right E W) (lt_true a.x b.x h.1)
heads_to W a b h = ap (λ level. cond level (cond (int_lt a.x b.x) E W) (cond (int_lt a.y b.y) N S)) (eq_true a.y b.y h.0) ∙ ap (λ right. cond right E W) (lt_false a.x b.x h.1)
heads_to N a b h = ap (λ level. cond level (cond (int_lt a.x b.x) E W) (cond (int_lt a.y b.y) N S)) (eq_false a.y b.y (λ e. absurd (omega (arith, ints)))) ∙ ap (λ up. cond up N S) (lt_true a.y b.y h)
heads_to S a b h = ap (λ level. cond level (cond (int_lt a.x b.x) E W) (cond (int_lt a.y b.y) N S)) (eq_false a.y b.y (λ e. absurd (omega (arith, ints)))) ∙ ap (λ up. cond up N S) (lt_false a.y b.y (omega (arith, ints)))

heads_on : (s : Side) (a b c : Pt) → Heads s a b → Heads s b c → Heads s a c
heads_on E a b c h k = (h.0 ∙ k.0, let p = h.1 in let q = k.1 in omega (arith, ints))
heads_on W a b c h k = (h.0 ∙ k.0, let p = h.1 in let q = k.1 in omega (arith, ints))
heads_on N a b c h k = omega (arith, ints)
heads_on S a b c h k = omega (arith, ints)

pub heading_on : (a b c : Pt) → heading a b ≡ heading b c → heading a c ≡ heading b c
heading_on a b c e = heads_to (heading b c) a c (heads_on (heading b c) a b c (subst (λ s. Heads s a b) e (heads_from a b)) (heads_from b c))
