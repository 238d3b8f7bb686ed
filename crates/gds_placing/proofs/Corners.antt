-- All copies of an array lie between those at its four corners.
use Rattle.std.proofs.Common.{◌≡◌, ℕ, zero, suc, ◌+◌, ◌<◌, ◌≤◌, ◌*◌, Bool, true, ◌&&◌, IsTrue, List, [], ◌∷◌, map, inl, inr, refl, sym, ap, subst, ◌∙◌, arith}
use Rattle.std.specs.List.{flat_map, list_all, range_with_len}
use Rattle.std.proofs.lemmas.Bool.{and_from, and_parts, cases_lt}
use Rattle.std.proofs.lemmas.List.Folds.{list_all-append, list_all-map}
use Rattle.std.proofs.Math.Nat.{mul-le-mul_left}
use Rattle.drc_geom.specs.declared.point.Pt.{Pt}
use Rattle.gds_placing.specs.declared.place.Placement.{Placement}
use Rattle.gds_placing.specs.declared.copies.Copies.{Copies}
use Rattle.gds_placing.specs.Places.{magnified, moved, place_of, is_reached, then_of, MayStand}
use Rattle.gds_placing.specs.Copies.{Cell, cells, origin_of, step_of, MayBeDrawn}
use Rattle.gds_placing.proofs.Turning.{both_turns_few}
use Rattle.gds_placing.proofs.Between.{among_times, among_sum_right, IsBetween, between_moved, drawn_between}

times_between : (k n : ℕ) (p : Pt) → k ≤ n → IsBetween (magnified 0 p) (magnified n p) (magnified k p)
times_between k n p h = record { x = among_times k n p.x h; y = among_times k n p.y h }

moved_right : (by a b p : Pt) → IsBetween a b p → IsBetween (moved a by) (moved b by) (moved p by)
moved_right by a b p h = record { x = among_sum_right by.x a.x b.x p.x h.x; y = among_sum_right by.y a.y b.y p.y h.y }

along_columns : (copies : Copies) (k n row : ℕ) → k ≤ n
    → IsBetween (origin_of copies 0 row) (origin_of copies n row) (origin_of copies k row)
along_columns copies k n row h =
    between_moved copies.origin _ _ _
    (moved_right (magnified row copies.row_pitch) _ _ _ (times_between k n copies.column_pitch h))

along_rows : (copies : Copies) (k n column : ℕ) → k ≤ n
    → IsBetween (origin_of copies column 0) (origin_of copies column n) (origin_of copies column k)
along_rows copies k n column h =
    between_moved copies.origin _ _ _
    (between_moved (magnified column copies.column_pitch) _ _ _ (times_between k n copies.row_pitch h))

-- the origin of a copy is drawn within reach
abbrev pub IsDrawn : Placement → Copies → (column row : ℕ) → Type 0
IsDrawn outer copies column row = IsTrue (is_reached (place_of outer (origin_of copies column row)))

pub drawn_corners : (outer : Placement) (copies : Copies) (columns rows : ℕ)
    → IsDrawn outer copies 0 0 → IsDrawn outer copies columns 0 → IsDrawn outer copies 0 rows
    → IsDrawn outer copies columns rows
    → (column row : ℕ) → column ≤ columns → row ≤ rows → IsDrawn outer copies column row
drawn_corners outer copies columns rows a b c d column row h k =
    drawn_between outer (origin_of copies column 0) (origin_of copies column rows) (origin_of copies column row)
    (along_rows copies row rows column k)
    (drawn_between outer (origin_of copies 0 0) (origin_of copies columns 0) (origin_of copies column 0)
    (along_columns copies column columns 0 h) a b)
    (drawn_between outer (origin_of copies 0 rows) (origin_of copies columns rows) (origin_of copies column rows)
    (along_columns copies column columns rows h) c d)

-- ---- Tests of all copies

list_all-flat_map : {A B : Type 0} (p : B → Bool) (f : A → List B) (xs : List A)
    → list_all p (flat_map f xs) ≡ list_all (λ x. list_all p (f x)) xs
list_all-flat_map p f [] = refl
list_all-flat_map p f (x ∷ xs) =
    list_all-append p (f x) (flat_map f xs) ∙ ap (λ b. list_all p (f x) && b) (list_all-flat_map p f xs)

range_from : (t : ℕ → Bool) (a n : ℕ) → ((k : ℕ) → a ≤ k → k < a + n → t k ≡ true)
    → list_all t (range_with_len a n) ≡ true
range_from t a zero h = refl
range_from t a (suc n) h =
    and_from (t a) (list_all t (range_with_len (a + 1) n)) (h a (omega arith) (omega arith))
    (range_from t (a + 1) n (λ k l u. h k (omega arith) (omega arith)))

range_all : (t : ℕ → Bool) (a n : ℕ) → list_all t (range_with_len a n) ≡ true → (k : ℕ) → a ≤ k → k < a + n → t k ≡ true
range_all t a zero e k l u = absurd (omega arith)
range_all t a (suc n) e k l u =
    let parts = and_parts (t a) (list_all t (range_with_len (a + 1) n)) e in
    elim (cases_lt a k) [
      | inl lt ↦ range_all t (a + 1) n parts.1 k (omega arith) (omega arith)
      | inr ge ↦ (let same : a ≡ k = omega arith in subst (λ m. t m ≡ true) same parts.0)
    ]

tests_of : (t : ℕ → ℕ → Bool) (columns rows : ℕ)
    → list_all (λ cell. t cell.column cell.row) (cells columns rows)
    ≡ list_all (λ row. list_all (λ column. t column row) (range_with_len 0 columns)) (range_with_len 0 rows)
tests_of t columns rows =
    list_all-flat_map (λ (cell : Cell). t cell.column cell.row) (λ row. map
    (λ column. record { column = column; row = row }) (range_with_len 0 columns)) (range_with_len 0 rows)
    ∙ ap (λ q. list_all q (range_with_len 0 rows))
    (λ i row. list_all-map (λ (cell : Cell). t cell.column cell.row)
    (λ column. record { column = column; row = row }) (range_with_len 0 columns) i)

pub all_cells_from : (t : ℕ → ℕ → Bool) (columns rows : ℕ) → ((column row : ℕ) → column < columns → row < rows
    → t column row ≡ true)
    → list_all (λ cell. t cell.column cell.row) (cells columns rows) ≡ true
all_cells_from t columns rows h =
    tests_of t columns rows
    ∙ range_from (λ row. list_all (λ column. t column row) (range_with_len 0 columns)) 0 rows
    (λ row l u. range_from (λ column. t column row) 0 columns (λ column m v. h column row (omega arith) (omega arith)))

pub all_cells : (t : ℕ → ℕ → Bool) (columns rows : ℕ)
    → list_all (λ cell. t cell.column cell.row) (cells columns rows) ≡ true
    → (column row : ℕ) → column < columns → row < rows → t column row ≡ true
all_cells t columns rows e column row h k =
    range_all (λ column. t column row) 0 columns
    (range_all (λ row. list_all (λ column. t column row) (range_with_len 0 columns)) 0 rows (sym
    (tests_of t columns rows) ∙ e) row (omega arith) (omega arith))
    column (omega arith) (omega arith)

-- ---- The place of a copy

product_some : (a b : ℕ) → 1 ≤ a → 1 ≤ b → 1 ≤ a * b
product_some a b h k = let l = mul-le-mul_left a k in omega arith

pub copy_may_stand : (outer : Placement) (copies : Copies) (column row : ℕ) → MayStand outer → MayBeDrawn outer copies
    → column < copies.columns → row < copies.rows → MayStand (then_of (step_of copies column row) outer)
copy_may_stand outer copies column row m d h k = record {
  turned = both_turns_few copies.turn outer.turn;
  drawn = product_some copies.magnification outer.magnification d.drawn m.drawn;
  magnified = d.magnified;
  reached = d.reached column row h k;
}
