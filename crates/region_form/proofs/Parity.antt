-- Whether a number is odd, by whether its parts are.
use Rattle.std.proofs.Common.{◌≡◌, ◌&&◌, ℤ, ◌<ℤ◌, ◌≤ℤ◌, int_le, List, [], ◌∷◌, ◌++◌, refl, ◌∙◌, ap, arith}
use Rattle.std.proofs.lemmas.Int.{ints}
use Rattle.list_facts.specs.EitherOr.{exactly_one}
use Rattle.list_facts.proofs.Tests.{and_known, le_true}
use Rattle.list_facts.proofs.EitherOr.{one_assoc}
use Rattle.region_form.specs.declared.flip.Flip.{Flip}
use Rattle.region_form.specs.Flips.{changes, squares, is_odd, AreBelow}

-- flips one after another
pub is_odd_append : (a b : List Flip) (x : ℤ) → is_odd (a ++ b) x ≡ exactly_one (is_odd a x) (is_odd b x)
is_odd_append [] b x = refl
is_odd_append (f ∷ a) b x =
    ap (exactly_one (changes f x)) (is_odd_append a b x) ∙ one_assoc (changes f x) (is_odd a x) (is_odd b x)

pub squares_append : (a b : List Flip) (x y : ℤ) → squares (a ++ b) x y ≡ exactly_one (squares a x y) (squares b x y)
squares_append [] b x y = refl
squares_append (f ∷ a) b x y =
    let p = int_le f.y y && changes f x in
    ap (exactly_one p) (squares_append a b x y) ∙ one_assoc p (squares a x y) (squares b x y)

-- above all lines each flip counts
pub squares_above_all : (line : ℤ) (fs : List Flip) (x y : ℤ) → AreBelow line fs → line ≤ℤ y → squares fs x y ≡ is_odd fs x
squares_above_all line [] x y b h = refl
squares_above_all line (f ∷ fs) x y b h =
    let k : f.y <ℤ line = b.0 in
    ap (exactly_one (int_le f.y y && changes f x)) (squares_above_all line fs x y b.1 h)
    ∙ ap (λ p. exactly_one p (is_odd fs x)) (and_known _ (changes f x) (le_true f.y y (omega (arith, ints))))
