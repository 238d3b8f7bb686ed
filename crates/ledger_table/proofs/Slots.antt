-- What stands in a list where one element is written.
use Rattle.std.proofs.Common.{◌≡◌, ℕ, ◌-◌, List, length, set, take, drop, replicate, reverse, ◌++◌, Some, sym, ◌∙◌, ap, arith}
use Rattle.std.proofs.lemmas.List.{length-set, take-append-drop, reverse-append, length-reverse, length-drop, length-replicate, get_or-replicate}
use Rattle.std.proofs.lemmas.Option.{same_Some, slice_get_within, get_or_from_slice_get}
use Rattle.std.proofs.Math.Seq.{take-append_seam}
use Rattle.std.specs.Prelude.{slice_get}
use Rattle.list_facts.proofs.Slots.{written}

-- what was written is read
pub slot_is : {X : Type 0} (xs : List X) (i : ℕ) (y x : X) → slice_get (set xs i y) i ≡ Some x → y ≡ x
slot_is xs i y x e =
    let h = slice_get_within (set xs i y) i x e in
    same_Some y x (sym (written xs i y (omega (arith, length-set xs i y))) ∙ e)

-- the end of a list, turned round
pub reversed_end : {X : Type 0} (xs : List X) (n : ℕ) → take (length xs - n) (reverse xs) ≡ reverse (drop n xs)
reversed_end xs n =
    let e : length xs - n ≡ length (reverse (drop n xs)) = sym (length-reverse (drop n xs) ∙ length-drop n xs) in
    ap (λ l. take (length xs - n) (reverse l)) (sym (take-append-drop n xs))
    ∙ (ap (take (length xs - n)) (reverse-append (take n xs) (drop n xs))
    ∙ (ap (λ k. take k (reverse (drop n xs) ++ reverse (take n xs))) e
    ∙ take-append_seam (reverse (drop n xs)) (reverse (take n xs))))

-- a slice that was lent out of a vector, written and given back
pub put_back : {X : Type 0} (xs ys : List X) (n : ℕ) → n ≡ length xs → length ys ≡ length xs → take n (ys ++ drop (length ys) xs) ≡ ys
put_back xs ys n e f = ap (λ k. take k (ys ++ drop (length ys) xs)) (e ∙ sym f) ∙ take-append_seam ys (drop (length ys) xs)

pub length_replicated : {X : Type 0} (xs : List X) (n : ℕ) (y : X) → xs ≡ replicate n y → length xs ≡ n
length_replicated xs n y e = ap length e ∙ length-replicate n y

-- every element of a list of the same
pub slot_replicated : {X : Type 0} (xs : List X) (n : ℕ) (y : X) → xs ≡ replicate n y → (i : ℕ) (x : X) → slice_get xs i ≡ Some x → x ≡ y
slot_replicated xs n y e i x g =
    let a : slice_get (replicate n y) i ≡ Some x = ap (λ l. slice_get l i) (sym e) ∙ g in
    let b = slice_get_within (replicate n y) i x a in
    sym (get_or_from_slice_get (replicate n y) i x y a) ∙ get_or-replicate n i y y (omega (arith, length-replicate n y))
