-- The first fact of a reference, and what is so where it has none.
use Rattle.std.proofs.Common.{◌≡◌, ℕ, ◌*◌, ◌-◌, ◌<◌, ◌≤◌, Bool, true, false, not, ◌&&◌, nat_le, List, [], ◌∷◌, ◌++◌, Option, None, Some, slice_get, unwrap_or, IsTrue, refl, sym, subst, arith}
use Rattle.std.specs.Option.{option_map_or, option_to_list, option_and_then}
use Rattle.std.proofs.lemmas.Bool.{and_from, and_parts, not-false, leb-true}
use Rattle.gds_records.specs.declared.fault.LayoutKind.{LayoutKind}
use Rattle.gds_records.specs.declared.fault.LayoutKind.TheVariants as kinds
use Rattle.gds_records.specs.declared.real.Real8.{Real8}
use Rattle.gds_library.specs.declared.element.Given.{Given}
use Rattle.gds_library.specs.declared.element.Instance.{Instance}
use Rattle.gds_library.specs.declared.element.Point.{Point}
use Rattle.gds_placing.specs.declared.place.Placement.{Placement}
use Rattle.gds_placing.specs.declared.copies.Copies.{Copies}
use Rattle.gds_placing.specs.Places.{is_reached, place_of}
use Rattle.gds_placing.specs.Copies.{AreNear, MayBeDrawn, copies_of, origin_of, said_magnification, whole_of, times_of, columns_of, rows_of}
use Rattle.gds_placing.specs.Facts.{are_reached, fact_if, facts_of, flag_facts, magnification_facts, angle_facts, pitch_facts, range_facts}
use Rattle.gds_placing.proofs.Corners.{drawn_corners, all_cells_from, all_cells}

-- ---- The first of a list

pub first_of_rest : {A : Type 0} (xs ys : List A)
    → slice_get (xs ++ option_to_list (slice_get ys 0)) 0 ≡ slice_get (xs ++ ys) 0
first_of_rest [] [] = refl
first_of_rest [] (y ∷ ys) = refl
first_of_rest (x ∷ xs) ys = refl

pub none_first : {A : Type 0} (xs : List A) → None ≡ slice_get xs 0 → xs ≡ []
none_first [] e = refl
none_first (x ∷ xs) e = absurd (cc)

none_both : {A : Type 0} (xs ys : List A) → xs ++ ys ≡ [] → (xs ≡ []) × (ys ≡ [])
none_both [] ys e = (refl, e)
none_both (x ∷ xs) ys e = absurd (cc)

no_fact : (b : Bool) (at : ℕ) (kind : LayoutKind) → fact_if b at kind ≡ [] → b ≡ false
no_fact true at kind e = absurd (cc)
no_fact false at kind e = refl

-- ---- The corners

bool_same : (a b : Bool) → (a ≡ true → b ≡ true) → (b ≡ true → a ≡ true) → a ≡ b
bool_same true b f g = sym (f refl)
bool_same false true f g = g refl
bool_same false false f g = refl

is_drawn : Placement → Copies → (column row : ℕ) → Bool
is_drawn outer copies column row = is_reached (place_of outer (origin_of copies column row))

pub corners_decide : (outer : Placement) (copies : Copies) → 1 ≤ copies.columns → 1 ≤ copies.rows
    → (is_reached (place_of outer (origin_of copies 0 0))
    && (is_reached (place_of outer (origin_of copies (copies.columns - 1) 0))
    && (is_reached (place_of outer (origin_of copies 0 (copies.rows - 1)))
    && is_reached (place_of outer (origin_of copies (copies.columns - 1) (copies.rows - 1))))))
    ≡ are_reached outer copies
unfolding is_drawn
corners_decide outer copies h k =
    let t = is_drawn outer copies in
    let n = copies.columns - 1 in
    let m = copies.rows - 1 in
    bool_same _ _
    (λ e.
    let one = and_parts (t 0 0) (t n 0 && (t 0 m && t n m)) e in
    let two = and_parts (t n 0) (t 0 m && t n m) one.1 in
    let three = and_parts (t 0 m) (t n m) two.1 in
    all_cells_from t copies.columns copies.rows
    (λ column row l u. drawn_corners outer copies n m one.0 two.0 three.0 three.1 column row (omega arith)
    (omega arith)))
    (λ e.
    let all = all_cells t copies.columns copies.rows e in
    and_from (t 0 0) (t n 0 && (t 0 m && t n m)) (all 0 0 (omega arith) (omega arith))
    (and_from (t n 0) (t 0 m && t n m) (all n 0 (omega arith) (omega arith))
    (and_from (t 0 m) (t n m) (all 0 m (omega arith) (omega arith)) (all n m (omega arith) (omega arith)))))

-- ---- Where there is no fact

magnified_if : (m at : ℕ) (said : Option ℕ)
    → fact_if (not (option_map_or (λ times. nat_le (times * m) 65536) said false)) at kinds.Magnification ≡ []
    → unwrap_or said 1 * m ≤ 65536
magnified_if m at None e = absurd (cc)
magnified_if m at (Some times) e =
    leb-true (times * m) 65536 (not-false (nat_le (times * m) 65536) (no_fact (not (nat_le
    (times * m) 65536)) at kinds.Magnification e))

magnified_at : (m : ℕ) (given : Option (Given Real8)) → m ≤ 65536
    → option_map_or
    (λ said. fact_if (not (option_map_or (λ times. nat_le (times * m) 65536) (option_map_or
    (λ g. option_and_then times_of (whole_of g.value)) given (Some 1)) false)) said.at kinds.Magnification)
    given [] ≡ []
    → unwrap_or (option_map_or (λ g. option_and_then times_of (whole_of g.value)) given (Some 1)) 1 * m ≤ 65536
magnified_at m None h e = omega arith
magnified_at m (Some given) h e = magnified_if m given.at (option_and_then times_of (whole_of given.value)) e

magnified_allowed : (outer : Placement) (instance : Instance) → outer.magnification ≤ 65536
    → magnification_facts outer instance ≡ []
    → unwrap_or (said_magnification instance) 1 * outer.magnification ≤ 65536
magnified_allowed outer instance h e = magnified_at outer.magnification instance.magnification h e

origins_reached : (outer : Placement) (instance : Instance) (points : List Point) → range_facts outer instance points ≡ []
    → (column row : ℕ) → column < columns_of instance → row < rows_of instance
    → IsTrue (is_reached (place_of outer (origin_of (copies_of instance points) column row)))
unfolding is_drawn
origins_reached outer instance points e =
    all_cells (is_drawn outer (copies_of instance points)) (columns_of instance) (rows_of instance)
    (not-false (are_reached outer (copies_of instance points))
    (no_fact _ instance.points_at kinds.CoordinateRange e))

-- what is known of copies, beside that a reference says them
pub record AreRead (copies : Copies) : Type 0 where
  pub near : AreNear copies
  pub turned : copies.turn.quarter < 4
  pub drawn : 1 ≤ copies.magnification

pub may_be_drawn : (outer : Placement) (instance : Instance) (points : List Point) (copies : Copies)
    → copies ≡ copies_of instance points
    → outer.magnification ≤ 65536 → AreRead copies → facts_of outer instance points ≡ [] → MayBeDrawn outer copies
may_be_drawn outer instance points copies e h read none =
    let from_range = range_facts outer instance points in
    let from_pitch = pitch_facts instance points ++ from_range in
    let from_angle = angle_facts instance ++ from_pitch in
    let from_magnification = magnification_facts outer instance ++ from_angle in
    let no_magnification = (none_both (flag_facts instance) from_magnification none).1 in
    let at_magnification = none_both (magnification_facts outer instance) from_angle no_magnification in
    let no_pitch = (none_both (angle_facts instance) from_pitch at_magnification.1).1 in
    let range = (none_both (pitch_facts instance points) from_range no_pitch).1 in
    record {
      turned = read.turned;
      near = read.near;
      drawn = read.drawn;
      magnified = subst (λ (k : Copies). k.magnification * outer.magnification ≤ 65536) (sym e)
          (magnified_allowed outer instance h at_magnification.0);
      reached = subst
          (λ (k : Copies). (column row : ℕ) → column < k.columns → row < k.rows
          → IsTrue (is_reached (place_of outer (origin_of k column row))))
          (sym e) (origins_reached outer instance points range);
    }
