-- The columns that pieces turn are those of the stretch in which inside changes.
use Rattle.std.proofs.Common.{◌≡◌, Bool, true, false, not, ◌&&◌, cond, ℤ, ◌<ℤ◌, ◌≤ℤ◌, int_le, List, [], ◌∷◌, refl, sym, subst, ap, ◌∙◌, arith}
use Rattle.std.proofs.lemmas.Int.{ints, by_lt_z}
use Rattle.list_facts.specs.Between.{between}
use Rattle.list_facts.specs.EitherOr.{exactly_one}
use Rattle.list_facts.proofs.EitherOr.{one_assoc, one_right_false}
use Rattle.list_facts.proofs.Tests.{between_before, between_past, between_true, le_false, le_true}
use Rattle.row_state.specs.declared.piece.Piece.{Piece}
use Rattle.row_state.specs.Pieces.{Tile}
use Rattle.region_sweep.specs.Working.Sweeps.{turned}

module _ {V : Type 0} (inside : V → Bool) (makes : V → V) where
  -- pieces end where the stretch does
  ends_within : (values : ℤ → V) (x0 x1 : ℤ) (ps : List (Piece V)) → Tile values x0 x1 ps → x0 ≤ℤ x1
  ends_within values x0 x1 [] t = let e : x0 ≡ x1 = t in omega (arith, ints)
  ends_within values x0 x1 (p ∷ ps) t = let w : x0 <ℤ p.x1 = t.1 in let k = ends_within values p.x1 x1 ps t.3 in omega (arith, ints)

  skipped : (b p q : Bool) → p ≡ false → cond b (exactly_one p q) q ≡ q
  skipped true p q e = ap (λ r. exactly_one r q) e
  skipped false p q e = refl

  counted_once : (b p q r : Bool) → p ≡ true → q ≡ false → b ≡ r → cond b (exactly_one p q) q ≡ r
  counted_once true p q r e f g = ap (λ s. exactly_one s q) e ∙ (ap not f ∙ g)
  counted_once false p q r e f g = f ∙ g

  pub turned_tiles : (values : ℤ → V) (x0 x1 : ℤ) (ps : List (Piece V)) (x : ℤ) → Tile values x0 x1 ps → turned inside makes ps x ≡ (between x0 x1 x && exactly_one (inside (values x)) (inside (makes (values x))))
  turned_tiles values x0 x1 [] x t =
      let e : x0 ≡ x1 = t in
      by_lt_z x x0
      (λ l. sym (ap (λ b. b && exactly_one (inside (values x)) (inside (makes (values x)))) (between_before x0 x1 x l)))
      (λ l. sym (ap (λ b. b && exactly_one (inside (values x)) (inside (makes (values x)))) (between_past x0 x1 x (subst (λ y. y ≤ℤ x) e l))))
  turned_tiles values x0 x1 (p ∷ ps) x t =
      let begins : p.x0 ≡ x0 = t.0 in
      let rest = turned_tiles values p.x1 x1 ps x t.3 in
      let either = exactly_one (inside (values x)) (inside (makes (values x))) in
      let flag = exactly_one (inside p.old) (inside (makes p.old)) in
      by_lt_z x x0
      (λ l.
      let out : exactly_one (int_le p.x0 x) (int_le p.x1 x) ≡ false =
      ap (λ b. exactly_one b (int_le p.x1 x)) (le_false p.x0 x (omega (arith, ints))) ∙ le_false p.x1 x (let w : x0 <ℤ p.x1 = t.1 in omega (arith, ints)) in
      skipped flag _ (turned inside makes ps x) out
      ∙ (rest
      ∙ (ap (λ b. b && either) (between_before p.x1 x1 x (let w : x0 <ℤ p.x1 = t.1 in omega (arith, ints)))
      ∙ sym (ap (λ b. b && either) (between_before x0 x1 x l)))))
      (λ l.
      by_lt_z x p.x1
      (λ k.
      let in_piece : exactly_one (int_le p.x0 x) (int_le p.x1 x) ≡ true =
      ap (λ b. exactly_one b (int_le p.x1 x)) (le_true p.x0 x (omega (arith, ints))) ∙ ap not (le_false p.x1 x k) in
      let none : turned inside makes ps x ≡ false = rest ∙ ap (λ b. b && either) (between_before p.x1 x1 x k) in
      let same : flag ≡ either = ap (λ v. exactly_one (inside v) (inside (makes v))) (sym (t.2 x l k)) in
      let within : x <ℤ x1 = (let m = ends_within values p.x1 x1 ps t.3 in omega (arith, ints)) in
      counted_once flag _ (turned inside makes ps x) either in_piece none same
      ∙ sym (ap (λ b. b && either) (between_true x0 x1 x l within)))
      (λ k.
      let past : exactly_one (int_le p.x0 x) (int_le p.x1 x) ≡ false =
      ap (λ b. exactly_one b (int_le p.x1 x)) (le_true p.x0 x (omega (arith, ints))) ∙ ap not (le_true p.x1 x k) in
      skipped flag _ (turned inside makes ps x) past
      ∙ (rest
      ∙ by_lt_z x x1
      (λ m. ap (λ b. b && either) (between_true p.x1 x1 x k m ∙ sym (between_true x0 x1 x l m)))
      (λ m. ap (λ b. b && either) (between_past p.x1 x1 x m ∙ sym (between_past x0 x1 x m))))))

  back : (p q : Bool) → exactly_one (exactly_one p q) q ≡ p
  back true true = refl
  back true false = refl
  back false true = refl
  back false false = refl

  one_more : (b p q : Bool) → cond b (exactly_one p q) q ≡ exactly_one (cond b (exactly_one p false) false) q
  one_more true p q = ap (λ r. exactly_one r q) (sym (one_right_false p))
  one_more false p q = refl

  pub turned_more : (p : Piece V) (ps : List (Piece V)) (x : ℤ) → turned inside makes (p ∷ ps) x ≡ exactly_one (turned inside makes (p ∷ []) x) (turned inside makes ps x)
  turned_more p ps x = one_more (exactly_one (inside p.old) (inside (makes p.old))) (exactly_one (int_le p.x0 x) (int_le p.x1 x)) (turned inside makes ps x)

  pub turned_true : (p : Piece V) (x : ℤ) → exactly_one (inside p.old) (inside (makes p.old)) ≡ true → turned inside makes (p ∷ []) x ≡ exactly_one (int_le p.x0 x) (int_le p.x1 x)
  turned_true p x e = ap (λ b. cond b (exactly_one (exactly_one (int_le p.x0 x) (int_le p.x1 x)) false) false) e ∙ one_right_false (exactly_one (int_le p.x0 x) (int_le p.x1 x))

  pub turned_false : (p : Piece V) (x : ℤ) → exactly_one (inside p.old) (inside (makes p.old)) ≡ false → turned inside makes (p ∷ []) x ≡ false
  turned_false p x e = ap (λ b. cond b (exactly_one (exactly_one (int_le p.x0 x) (int_le p.x1 x)) false) false) e

  -- ---- what a change of a stretch keeps

  kept_cases : (b : Bool) (old new v : Bool) (w : V) → v ≡ (b && exactly_one (inside w) (inside (makes w))) → new ≡ exactly_one old v → exactly_one new (inside (cond b (makes w) w)) ≡ exactly_one old (inside w)
  kept_cases true old new v w e f =
      ap (λ q. exactly_one q (inside (makes w))) (f ∙ ap (exactly_one old) e)
      ∙ (sym (one_assoc old (exactly_one (inside w) (inside (makes w))) (inside (makes w)))
      ∙ ap (exactly_one old) (back (inside w) (inside (makes w))))
  kept_cases false old new v w e f = ap (λ q. exactly_one q (inside w)) (f ∙ (ap (exactly_one old) e ∙ one_right_false old))

  -- the pending ends and inside of the values stay in step
  pub kept : (values new_values : ℤ → V) (x0 x1 : ℤ) (ps : List (Piece V)) (old new : Bool) (x : ℤ) → Tile values x0 x1 ps → new_values x ≡ cond (between x0 x1 x) (makes (values x)) (values x) → new ≡ exactly_one old (turned inside makes ps x) → exactly_one new (inside (new_values x)) ≡ exactly_one old (inside (values x))
  kept values new_values x0 x1 ps old new x t e f =
      ap (λ v. exactly_one new (inside v)) e
      ∙ kept_cases (between x0 x1 x) old new (turned inside makes ps x) (values x) (turned_tiles values x0 x1 ps x t) f

pub from_kept : (p new old : Bool) → exactly_one p new ≡ old → p ≡ exactly_one new old
from_kept true true old e = ap not e
from_kept true false old e = e
from_kept false true old e = ap not e
from_kept false false old e = e
