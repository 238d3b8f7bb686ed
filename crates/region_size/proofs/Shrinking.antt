-- Shrinking by what is outside: a square stays where no square outside is near.
use Rattle.std.proofs.Common.{◌≡◌, ◌↔◌, Bool, true, false, not, ◌&&◌, ◌||◌, ℤ, pos, ◌+ℤ◌, ◌-ℤ◌, ◌≤ℤ◌, refl, sym, subst, ap, ◌∙◌, arith}
use Rattle.std.proofs.lemmas.Int.{ints}
use Rattle.std.proofs.lemmas.Bool.{and_from, not-true}
use Rattle.std.specs.Cmp.{first_so, second_so}
use Rattle.list_facts.specs.Between.{between}
use Rattle.list_facts.specs.EitherOr.{exactly_one}
use Rattle.list_facts.proofs.Tests.{between_true, by_test, clash, from_between, or_right_known, up_to_between}
use Rattle.drc_geom.specs.Squares.{Squares, squares_of}
use Rattle.drc_geom.specs.declared.rect.Rect.{Rect}
use Rattle.region_size.specs.Sizes.{AllNear, HasNear, IsNear, IsWithin, LieWithin}

pub near_itself : (d x y : ℤ) → pos 0 ≤ℤ d → IsNear d x y x y
near_itself d x y z = record { right = omega (arith, ints); left = omega (arith, ints); above = omega (arith, ints); below = omega (arith, ints) }

module _ (set all outside near after : Squares) (d : ℤ) (z : pos 0 ≤ℤ d) (looked : (x y column row : ℤ) → set x y ≡ true → IsNear d x y column row → all column row ≡ true) (is_outside : (x y : ℤ) → outside x y ≡ (all x y && not (set x y))) (is_near : (x y : ℤ) → (near x y ≡ true) ↔ HasNear outside d x y) (is_after : (x y : ℤ) → after x y ≡ (set x y && not (near x y))) where
  stays : (x y column row : ℤ) → set x y ≡ true → near x y ≡ false → IsNear d x y column row → set column row ≡ true
  stays x y column row s n i =
      by_test (set column row) (λ t. t)
      (λ f.
      clash (near x y)
      ((is_near x y).1 (record { column = column; row = row; near = i; has = is_outside column row ∙ and_from _ _ (looked x y column row s i) (ap not f) }))
      n)

  goes : (x y : ℤ) → AllNear set d x y → near x y ≡ false
  goes x y a =
      by_test (near x y)
      (λ t.
      let h = (is_near x y).0 t in
      let o = second_so (all h.column h.row) (not (set h.column h.row)) (sym (is_outside h.column h.row) ∙ h.has) in
      clash (set h.column h.row) (a h.column h.row h.near) (not-true (set h.column h.row) o))
      (λ f. f)

  pub shrunk_is : (x y : ℤ) → (after x y ≡ true) ↔ AllNear set d x y
  shrunk_is x y = (
    λ t.
        let e = sym (is_after x y) ∙ t in
        λ column row i. stays x y column row (first_so (set x y) (not (near x y)) e) (not-true (near x y) (second_so (set x y) (not (near x y)) e)) i,
    λ a. is_after x y ∙ and_from _ _ (a x y (near_itself d x y z)) (ap not (goes x y a)),
  )

of_part : (all set : Bool) → (set ≡ true → all ≡ true) → exactly_one all set ≡ (all && not set)
of_part true set h = refl
of_part false true h = sym (h refl)
of_part false false h = refl

-- exactly one of a set and all of which it is a part has what the set lacks
pub lacking : (all set outside : Squares) → ((x y : ℤ) → set x y ≡ true → all x y ≡ true) → ((x y : ℤ) → outside x y ≡ exactly_one (all x y) (set x y)) → (x y : ℤ) → outside x y ≡ (all x y && not (set x y))
lacking all set outside h e x y = e x y ∙ of_part (all x y) (set x y) (h x y)

-- a frame that has what is near to what lies within a limit
pub frame_has : (f : Rect) (limit d x y column row : ℤ) → f.x0 ≤ℤ ((pos 0 -ℤ limit) -ℤ d) → f.y0 ≤ℤ ((pos 0 -ℤ limit) -ℤ d) → (limit +ℤ d) ≤ℤ f.x1 → (limit +ℤ d) ≤ℤ f.y1 → IsWithin limit x y → IsNear d x y column row → (squares_of f column row || false) ≡ true
frame_has f limit d x y column row p q r s w i =
    let a = i.right in
    let b = i.left in
    let c = i.above in
    let e = i.below in
    let g = w.right in
    let h = w.left in
    let k = w.above in
    let l = w.below in
    or_right_known (squares_of f column row) false refl
    ∙ and_from _ _ (between_true f.x0 f.x1 column (omega (arith, ints)) (omega (arith, ints))) (between_true f.y0 f.y1 row (omega (arith, ints)) (omega (arith, ints)))

-- what is in a frame lies within a limit
pub frame_within : (f : Rect) (limit x y : ℤ) → (pos 0 -ℤ limit) ≤ℤ f.x0 → (pos 0 -ℤ limit) ≤ℤ f.y0 → f.x1 ≤ℤ limit → f.y1 ≤ℤ limit → (squares_of f x y || false) ≡ true → IsWithin limit x y
frame_within f limit x y p q r s e =
    let t = sym (or_right_known (squares_of f x y) false refl) ∙ e in
    let u = first_so (between f.x0 f.x1 x) (between f.y0 f.y1 y) t in
    let v = second_so (between f.x0 f.x1 x) (between f.y0 f.y1 y) t in
    let a = from_between f.x0 f.x1 x u in
    let b = up_to_between f.x0 f.x1 x u in
    let c = from_between f.y0 f.y1 y v in
    let d = up_to_between f.y0 f.y1 y v in
    record { right = omega (arith, ints); left = omega (arith, ints); above = omega (arith, ints); below = omega (arith, ints) }

pub outside_within : (limit : ℤ) (all set outside : Squares) → LieWithin limit all → ((x y : ℤ) → outside x y ≡ (all x y && not (set x y))) → LieWithin limit outside
outside_within limit all set outside w e x y t = w x y (first_so (all x y) (not (set x y)) (sym (e x y) ∙ t))

-- grown or shrunk by nothing, a set is the same
pub by_nothing : (set : Squares) (d x y : ℤ) → pos 0 ≤ℤ d → d ≤ℤ pos 0 → HasNear set d x y ↔ AllNear set (pos 0 -ℤ d) x y
by_nothing set d x y p q = (
  λ h column row i.
      let a = i.right in
      let b = i.left in
      let c = i.above in
      let e = i.below in
      let f = h.near.right in
      let g = h.near.left in
      let k = h.near.above in
      let l = h.near.below in
      let m : h.column ≡ column = omega (arith, ints) in
      let n : h.row ≡ row = omega (arith, ints) in
      subst (λ v. set v row ≡ true) m (subst (λ v. set h.column v ≡ true) n h.has),
  λ a. record { column = x; row = y; near = near_itself d x y p; has = a x y (near_itself (pos 0 -ℤ d) x y (omega (arith, ints))) },
)
