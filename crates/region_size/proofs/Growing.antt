-- Growing by rectangles: what is covered by rectangles that are made wider is near to what they covered.
use Rattle.std.proofs.Common.{◌≡◌, ◌↔◌, inl, inr, true, false, ℤ, pos, ◌+ℤ◌, ◌-ℤ◌, ◌<ℤ◌, ◌≤ℤ◌, List, [], ◌∷◌, map, sym, ◌∙◌, arith}
use Rattle.std.proofs.lemmas.Int.{ints, by_lt_z}
use Rattle.std.proofs.lemmas.Bool.{and_from, or_cases, or_left, or_right}
use mathlib.Core.Bool.{true≢false}
use Rattle.std.specs.Cmp.{first_so, second_so}
use Rattle.std.specs.List.{AllByRecursion}
use Rattle.list_facts.specs.Between.{between}
use Rattle.list_facts.proofs.Tests.{between_true, from_between, up_to_between}
use Rattle.drc_geom.specs.declared.rect.Rect.{Rect}
use Rattle.drc_geom.specs.Squares.{IsRect, Squares, covered, squares_of}
use Rattle.region_size.specs.Sizes.{HasNear, IsWithin, LieWithin}
use Rattle.region_size.specs.Working.Widths.{HasNearBy, LiesWithin, widened}

-- a column of a stretch that lies within d of x
record Nearest (lo hi d x : ℤ) : Type 0 where
  column : ℤ
  begins : lo ≤ℤ column
  ends : column <ℤ hi
  right : (x -ℤ d) ≤ℤ column
  left : column ≤ℤ (x +ℤ d)

nearest : (lo hi d x : ℤ) → lo <ℤ hi → pos 0 ≤ℤ d → (lo -ℤ d) ≤ℤ x → x <ℤ (hi +ℤ d) → Nearest lo hi d x
nearest lo hi d x w z p q =
    by_lt_z x lo
    (λ l. record { column = lo; begins = omega (arith, ints); ends = w; right = omega (arith, ints); left = omega (arith, ints) })
    (λ l. by_lt_z x hi
    (λ m. record { column = x; begins = l; ends = m; right = omega (arith, ints); left = omega (arith, ints) })
    (λ m. record { column = hi -ℤ pos 1; begins = omega (arith, ints); ends = omega (arith, ints); right = omega (arith, ints); left = omega (arith, ints) }))

-- what a square of a rectangle says
record IsIn (r : Rect) (x y : ℤ) : Type 0 where
  begins_x : r.x0 ≤ℤ x
  ends_x : x <ℤ r.x1
  begins_y : r.y0 ≤ℤ y
  ends_y : y <ℤ r.y1

is_in : (r : Rect) (x y : ℤ) → squares_of r x y ≡ true → IsIn r x y
is_in r x y e =
    let p = first_so (between r.x0 r.x1 x) (between r.y0 r.y1 y) e in
    let q = second_so (between r.x0 r.x1 x) (between r.y0 r.y1 y) e in
    record { begins_x = from_between r.x0 r.x1 x p; ends_x = up_to_between r.x0 r.x1 x p; begins_y = from_between r.y0 r.y1 y q; ends_y = up_to_between r.y0 r.y1 y q }

in_is : (r : Rect) (x y : ℤ) → IsIn r x y → squares_of r x y ≡ true
in_is r x y i = and_from _ _ (between_true r.x0 r.x1 x i.begins_x i.ends_x) (between_true r.y0 r.y1 y i.begins_y i.ends_y)

module _ (dx dy : ℤ) (x_low : pos 0 ≤ℤ dx) (y_low : pos 0 ≤ℤ dy) where
  one_near : (r : Rect) (rs : List Rect) (x y : ℤ) → IsRect r → squares_of (widened dx dy r) x y ≡ true → HasNearBy (covered (r ∷ rs)) dx dy x y
  one_near r rs x y a e =
      let i = is_in (widened dx dy r) x y e in
      let c = nearest r.x0 r.x1 dx x a.wide x_low i.begins_x i.ends_x in
      let k = nearest r.y0 r.y1 dy y a.high y_low i.begins_y i.ends_y in
      record {
        column = c.column;
        row = k.column;
        right = c.right;
        left = c.left;
        above = k.right;
        below = k.left;
        has = or_left (squares_of r c.column k.column) (covered rs c.column k.column) (in_is r c.column k.column (record { begins_x = c.begins; ends_x = c.ends; begins_y = k.begins; ends_y = k.ends }));
      }

  wide_near : (rs : List Rect) (x y : ℤ) → AllByRecursion IsRect rs → covered (map (widened dx dy) rs) x y ≡ true → HasNearBy (covered rs) dx dy x y
  wide_near [] x y a e = absurd (true≢false (sym e))
  wide_near (r ∷ rs) x y a e =
      elim (or_cases (squares_of (widened dx dy r) x y) (covered (map (widened dx dy) rs) x y) e) [
        | inl p ↦ one_near r rs x y a.0 p
        | inr p ↦
            let h = wide_near rs x y a.1 p in
            record { column = h.column; row = h.row; right = h.right; left = h.left; above = h.above; below = h.below; has = or_right (squares_of r h.column h.row) (covered rs h.column h.row) h.has }
      ]

  near_wide : (rs : List Rect) (x y column row : ℤ) → (x -ℤ dx) ≤ℤ column → column ≤ℤ (x +ℤ dx) → (y -ℤ dy) ≤ℤ row → row ≤ℤ (y +ℤ dy) → covered rs column row ≡ true → covered (map (widened dx dy) rs) x y ≡ true
  near_wide [] x y column row p q s t e = absurd (true≢false (sym e))
  near_wide (r ∷ rs) x y column row p q s t e =
      elim (or_cases (squares_of r column row) (covered rs column row) e) [
        | inl f ↦
            let i = is_in r column row f in
            let bx = i.begins_x in
            let ex = i.ends_x in
            let by = i.begins_y in
            let ey = i.ends_y in
            or_left (squares_of (widened dx dy r) x y) (covered (map (widened dx dy) rs) x y)
            (in_is (widened dx dy r) x y (record { begins_x = omega (arith, ints); ends_x = omega (arith, ints); begins_y = omega (arith, ints); ends_y = omega (arith, ints) }))
        | inr f ↦ or_right (squares_of (widened dx dy r) x y) (covered (map (widened dx dy) rs) x y) (near_wide rs x y column row p q s t f)
      ]

  pub grown_by : (set after : Squares) (rs : List Rect) → ((x y : ℤ) → covered rs x y ≡ set x y) → AllByRecursion IsRect rs → ((x y : ℤ) → after x y ≡ covered (map (widened dx dy) rs) x y) → (x y : ℤ) → (after x y ≡ true) ↔ HasNearBy set dx dy x y
  grown_by set after rs same a e x y = (
    λ t.
        let h = wide_near rs x y a (sym (e x y) ∙ t) in
        record { column = h.column; row = h.row; right = h.right; left = h.left; above = h.above; below = h.below; has = sym (same h.column h.row) ∙ h.has },
    λ h. e x y ∙ near_wide rs x y h.column h.row h.right h.left h.above h.below (same h.column h.row ∙ h.has),
  )

  pub wide_rects : (rs : List Rect) → AllByRecursion IsRect rs → AllByRecursion IsRect (map (widened dx dy) rs)
  wide_rects [] a = tt
  wide_rects (r ∷ rs) a =
      let w : r.x0 <ℤ r.x1 = a.0.wide in
      let h : r.y0 <ℤ r.y1 = a.0.high in
      (record { wide = omega (arith, ints); high = omega (arith, ints) }, wide_rects rs a.1)

-- rectangles whose squares lie within a limit do
pub rects_within : (limit : ℤ) (rs : List Rect) → AllByRecursion IsRect rs → LieWithin limit (covered rs) → AllByRecursion (LiesWithin limit) rs
rects_within limit [] a w = tt
rects_within limit (r ∷ rs) a w =
    let wide : r.x0 <ℤ r.x1 = a.0.wide in
    let high : r.y0 <ℤ r.y1 = a.0.high in
    let x1 = r.x1 -ℤ pos 1 in
    let y1 = r.y1 -ℤ pos 1 in
    let first : IsWithin limit r.x0 r.y0 = w r.x0 r.y0 (or_left (squares_of r r.x0 r.y0) (covered rs r.x0 r.y0) (in_is r r.x0 r.y0 (record { begins_x = omega (arith, ints); ends_x = wide; begins_y = omega (arith, ints); ends_y = high }))) in
    let last : IsWithin limit x1 y1 = w x1 y1 (or_left (squares_of r x1 y1) (covered rs x1 y1) (in_is r x1 y1 (record { begins_x = omega (arith, ints); ends_x = omega (arith, ints); begins_y = omega (arith, ints); ends_y = omega (arith, ints) }))) in
    let lx = last.left in
    let ly = last.below in (
      record { x0 = first.right; y0 = first.above; x1 = omega (arith, ints); y1 = omega (arith, ints) },
      rects_within limit rs a.1 (λ x y e. w x y (or_right (squares_of r x y) (covered rs x y) e)),
    )

pub same_within : (limit : ℤ) (a b : Squares) → ((x y : ℤ) → a x y ≡ b x y) → LieWithin limit b → LieWithin limit a
same_within limit a b e w x y t = w x y (sym (e x y) ∙ t)

pub within_more : (limit more : ℤ) (set : Squares) → limit ≤ℤ more → LieWithin limit set → LieWithin more set
within_more limit more set h w x y t =
    let i = w x y t in
    let p = i.right in
    let q = i.left in
    let r = i.above in
    let s = i.below in
    record { right = omega (arith, ints); left = omega (arith, ints); above = omega (arith, ints); below = omega (arith, ints) }

pub within_grown : (limit more : ℤ) (set after : Squares) (dx dy : ℤ) → pos 0 ≤ℤ dx → pos 0 ≤ℤ dy → (limit +ℤ dx) ≤ℤ more → (limit +ℤ dy) ≤ℤ more → LieWithin limit set → ((x y : ℤ) → (after x y ≡ true) ↔ HasNearBy set dx dy x y) → LieWithin more after
within_grown limit more set after dx dy zx zy hx hy w g x y t =
    let h = (g x y).0 t in
    let i = w h.column h.row h.has in
    let p = i.right in
    let q = i.left in
    let r = i.above in
    let s = i.below in
    let a = h.right in
    let b = h.left in
    let c = h.above in
    let d = h.below in
    record { right = omega (arith, ints); left = omega (arith, ints); above = omega (arith, ints); below = omega (arith, ints) }

-- first along x, then along y
pub two_steps : (set wider after : Squares) (d : ℤ) → pos 0 ≤ℤ d → ((x y : ℤ) → (wider x y ≡ true) ↔ HasNearBy set d (pos 0) x y) → ((x y : ℤ) → (after x y ≡ true) ↔ HasNearBy wider (pos 0) d x y) → (x y : ℤ) → (after x y ≡ true) ↔ HasNear set d x y
two_steps set wider after d z g h x y = (
  λ t.
      let up = (h x y).0 t in
      let over = (g up.column up.row).0 up.has in
      let a = up.right in
      let b = up.left in
      let c = up.above in
      let k = up.below in
      let p = over.right in
      let q = over.left in
      let r = over.above in
      let s = over.below in
      record { column = over.column; row = over.row; near = record { right = omega (arith, ints); left = omega (arith, ints); above = omega (arith, ints); below = omega (arith, ints) }; has = over.has },
  λ n.
      let a = n.near.right in
      let b = n.near.left in
      let c = n.near.above in
      let k = n.near.below in
      (h x y).1 (record {
        column = x;
        row = n.row;
        right = omega (arith, ints);
        left = omega (arith, ints);
        above = c;
        below = k;
        has = (g x n.row).1 (record { column = n.column; row = n.row; right = a; left = b; above = omega (arith, ints); below = omega (arith, ints); has = n.has });
      }),
)

-- what rectangles cover lies within a limit where they do
pub covered_within : (limit : ℤ) (rs : List Rect) → AllByRecursion (LiesWithin limit) rs → LieWithin limit (covered rs)
covered_within limit [] a x y e = absurd (true≢false (sym e))
covered_within limit (r ∷ rs) a x y e =
    elim (or_cases (squares_of r x y) (covered rs x y) e) [
      | inl p ↦
          let i = is_in r x y p in
          let bx = i.begins_x in
          let ex = i.ends_x in
          let by = i.begins_y in
          let ey = i.ends_y in
          let x0 = a.0.x0 in
          let y0 = a.0.y0 in
          let x1 = a.0.x1 in
          let y1 = a.0.y1 in
          record { right = omega (arith, ints); left = omega (arith, ints); above = omega (arith, ints); below = omega (arith, ints) }
      | inr p ↦ covered_within limit rs a.1 x y p
    ]
