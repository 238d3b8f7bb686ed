-- What a binary search says of a number of a sorted list, as a test; and two searches that may be swapped.
use Rattle.std.proofs.Common.{◌≡◌, ◌⊎◌, ℕ, ◌<◌, ◌≤◌, Bool, true, false, ◌&&◌, ◌||◌, List, [], ◌∷◌, length, get_or, ℤ, refl, sym, ◌∙◌, ap, arith, inl, inr}
use Rattle.std.specs.Prelude.{Result, Ok, Err, is_ok, ◌==◌, if◌then◌else◌}
use Rattle.std.specs.List.{list_any}
use Rattle.std.specs.List.Sorted.{IsBinarySearchResult, IsNonDecreasing}
use Rattle.std.specs.Ordering.{nat_cmp}
use Rattle.std.proofs.lemmas.Bool.{eq-eqb, ne_eqb, cases_lt}
use Rattle.std.proofs.lemmas.List.Elements.{All-from_get_or}
use Rattle.std.proofs.lemmas.List.Folds.{list_any_at, list_any_none}
use Rattle.std.proofs.lemmas.List.Sorted.{searched}
use Rattle.list_facts.proofs.Members.{any_agree}
use Rattle.layer_model.specs.declared.map_row.MapRow.{MapRow}
use Rattle.layer_model.specs.DrawnNumbers.{Reading, number_of, names, goes_to, takes}

-- a number is found exactly where it is among them
pub found_among : (xs : List ℕ) (x : ℕ) (r : Result ℕ ℕ) → IsBinarySearchResult (λ y. nat_cmp y x) xs r → IsNonDecreasing xs → is_ok r ≡ list_any (λ n. x == n) xs
found_among xs x (Ok i) found up =
    let h : (i < length xs) × (get_or xs i 0 ≡ x) = searched xs x (Ok i) found (λ a b. up a b 0) in
    sym (list_any_at (λ n. x == n) xs i 0 h.0 (eq-eqb _ _ (sym h.1)))
found_among xs x (Err i) found up =
    let h : (i ≤ length xs) × ((k : ℕ) → k < i → get_or xs k 0 < x) × ((k : ℕ) → i ≤ k → k < length xs → x < get_or xs k 0) = searched xs x (Err i) found (λ a b. up a b 0) in
    sym (list_any_none (λ n. x == n) xs (All-from_get_or (λ y. (x == y) ≡ false) xs 0 (λ k w. ne_eqb _ _ (λ e. elim (cases_lt k i) [
      | inl l ↦ let q = h.1 k l in omega arith
      | inr l ↦ let q = h.2 k l w in omega arith
    ]))))

any_nothing : {X : Type 0} (xs : List X) → list_any (λ x. false) xs ≡ false
any_nothing [] = refl
any_nothing (x ∷ xs) = any_nothing xs

regroup : (a b c d : Bool) → ((a || b) || (c || d)) ≡ ((a || c) || (b || d))
regroup true b c d = refl
regroup false true true d = refl
regroup false true false d = refl
regroup false false c d = refl

any_or : {X : Type 0} (p q : X → Bool) (xs : List X) → list_any (λ x. p x || q x) xs ≡ (list_any p xs || list_any q xs)
any_or p q [] = refl
any_or p q (x ∷ xs) = ap (λ b. (p x || q x) || b) (any_or p q xs) ∙ regroup (p x) (q x) (list_any p xs) (list_any q xs)

any_and : {X : Type 0} (a : Bool) (p : X → Bool) (xs : List X) → list_any (λ x. a && p x) xs ≡ (a && list_any p xs)
any_and true p xs = refl
any_and false p xs = any_nothing xs

swapped : {X Y : Type 0} (f : X → Y → Bool) (xs : List X) (ys : List Y) → list_any (λ y. list_any (λ x. f x y) xs) ys ≡ list_any (λ x. list_any (f x) ys) xs
swapped f xs [] = sym (any_nothing xs)
swapped f xs (y ∷ ys) = ap (λ b. list_any (λ x. f x y) xs || b) (swapped f xs ys) ∙ sym (any_or (λ x. f x y) (λ x. list_any (f x) ys) xs)

-- a target of a row is read where a number that is read is a target
pub read_by_a_row : (rows : List MapRow) (layer datatype : ℕ) (numbers : List ℕ) → list_any (names layer datatype) rows ≡ true → list_any (λ row. names layer datatype row && list_any (λ n. row.target == n) numbers) rows ≡ list_any (goes_to rows layer datatype) numbers
read_by_a_row rows layer datatype numbers named =
    any_agree (λ row. names layer datatype row && list_any (λ n. row.target == n) numbers) (λ row. list_any (λ n. names layer datatype row && (row.target == n)) numbers) (λ row. sym (any_and (names layer datatype row) (λ n. row.target == n) numbers)) rows
    ∙ sym (swapped (λ row n. names layer datatype row && (row.target == n)) rows numbers)
    ∙ ap (λ b. list_any (λ n. if b then list_any (λ row. names layer datatype row && (row.target == n)) rows else (layer == n)) numbers) (sym named)

-- no row names the pair: its layer is read
pub read_by_layer : (rows : List MapRow) (layer datatype : ℕ) (numbers : List ℕ) → list_any (names layer datatype) rows ≡ false → list_any (λ n. layer == n) numbers ≡ list_any (goes_to rows layer datatype) numbers
read_by_layer rows layer datatype numbers unnamed =
    ap (λ b. list_any (λ n. if b then list_any (λ row. names layer datatype row && (row.target == n)) rows else (layer == n)) numbers) (sym unnamed)

-- the same for a reading, from parts that are equal to its own
pub takes_by_row : (reading : Reading) (layer datatype : ℤ) (named_rows rows : List MapRow) (numbers : List ℕ) (l d : ℕ) → named_rows ≡ reading.maps → rows ≡ reading.maps → numbers ≡ reading.numbers → l ≡ number_of layer → d ≡ number_of datatype → list_any (names l d) named_rows ≡ true → list_any (λ row. names l d row && list_any (λ n. row.target == n) numbers) rows ≡ takes reading layer datatype
takes_by_row reading layer datatype named_rows rows numbers l d e f g h k named =
    rw (f, g, h, k) (read_by_a_row reading.maps (number_of layer) (number_of datatype) reading.numbers (rw (e, h, k) at named))

pub takes_by_layer : (reading : Reading) (layer datatype : ℤ) (named_rows : List MapRow) (numbers : List ℕ) (l d : ℕ) → named_rows ≡ reading.maps → numbers ≡ reading.numbers → l ≡ number_of layer → d ≡ number_of datatype → list_any (names l d) named_rows ≡ false → list_any (λ n. l == n) numbers ≡ takes reading layer datatype
takes_by_layer reading layer datatype named_rows numbers l d e g h k unnamed =
    rw (g, h) (read_by_layer reading.maps (number_of layer) (number_of datatype) reading.numbers (rw (e, h, k) at unnamed))
