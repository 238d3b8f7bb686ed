-- Stacks whose next part stands last.
use Rattle.std.proofs.Common.{◌≡◌, ◌≤◌, ℕ, ◌-◌, ◌&&◌, Bool, true, false, List, [], ◌∷◌, ◌++◌, map, reverse, take, drop, length, refl, sym, ap, ◌∙◌, arith}
use Rattle.std.proofs.lemmas.List.{reverse-append, length-reverse, take-append-drop, drop_at, drop-map, length-drop, length-map, map-append}
use Rattle.deck_grammar.specs.Rules as r
use Rattle.deck_stacks.specs.Working.Tables.{may_be_empty}
use Rattle.deck_stacks.specs.Working.Deriving.{all_empty}
use Rattle.deck_stacks.specs.declared.part.Part.{Part}
use Rattle.deck_stacks.specs.Parts.{part_of, from_top}
use Rattle.deck_stacks.specs.Working.Opening.{is_empty_way, each_empty}

pub from_top_push : (xs : List Part) (x : Part) → from_top (xs ++ x ∷ []) ≡ part_of x ∷ from_top xs
from_top_push xs x = ap (map part_of) (reverse-append xs (x ∷ []))

reverse-take : {X : Type 0} (xs : List X) (n : ℕ) → n ≤ length xs
    → reverse (take (length xs - n) xs) ≡ drop n (reverse xs)
reverse-take xs n h =
    let k = length xs - n in
    let split : reverse xs ≡ reverse (drop k xs) ++ reverse (take k xs) =
    ap reverse (sym (take-append-drop k xs)) ∙ reverse-append (take k xs) (drop k xs) in
    let size : length (reverse (drop k xs)) ≡ n = length-reverse (drop k xs) ∙ (length-drop k xs ∙ omega arith) in
    sym (ap (drop n) split ∙ drop_at (reverse (drop k xs)) (reverse (take k xs)) n size)

from_top_cut : (xs : List Part) (n : ℕ) → n ≤ length xs → from_top (take (length xs - n) xs) ≡ drop n (from_top xs)
from_top_cut xs n h = ap (map part_of) (reverse-take xs n h) ∙ sym (drop-map part_of n (reverse xs))

-- what is left where so many are taken off the top
pub is_cut : (xs ys : List Part) (shown : List r.Part) (count len : ℕ) → ys ≡ take (len - count) xs
    → len ≡ length xs → from_top xs ≡ shown → count ≤ length shown → from_top ys ≡ drop count shown
is_cut xs ys shown count len e size view within =
    let same : length xs ≡ length shown = sym (length-map (reverse xs) part_of ∙ length-reverse xs) ∙ ap length view in
    ap from_top (e ∙ ap (λ n. take (n - count) xs) size) ∙ (from_top_cut xs count (omega arith) ∙ ap (drop count) view)

-- each part may spell nothing, from the bottom or from the top
and_assoc : (a b c : Bool) → (a && (b && c)) ≡ ((a && b) && c)
and_assoc true b c = refl
and_assoc false b c = refl

turned : (a b : Bool) → (a && b) ≡ (b && (a && true))
turned true true = refl
turned true false = refl
turned false true = refl
turned false false = refl

all_empty_append : (these those : List r.Part) → all_empty (these ++ those) ≡ (all_empty these && all_empty those)
all_empty_append [] those = refl
all_empty_append (r.token k ∷ these) those = refl
all_empty_append (r.rule q ∷ these) those =
    ap (λ b. may_be_empty q && b) (all_empty_append these those)
    ∙ and_assoc (may_be_empty q) (all_empty these) (all_empty those)

all_empty_one : (p : r.Part) → all_empty (p ∷ []) ≡ (is_empty_way p && true)
all_empty_one (r.token k) = refl
all_empty_one (r.rule q) = refl

under : (x : Part) (xs : List Part) → from_top (x ∷ xs) ≡ from_top xs ++ part_of x ∷ []
under x xs = ap (map part_of) (reverse-append (x ∷ []) xs) ∙ map-append part_of (reverse xs) (x ∷ [])

pub each_is_all : (xs : List Part) → each_empty xs ≡ all_empty (from_top xs)
each_is_all [] = refl
each_is_all (x ∷ xs) =
    let e = is_empty_way (part_of x) in
    ap (λ b. e && b) (each_is_all xs)
    ∙ (turned e (all_empty (from_top xs))
    ∙ (sym (ap (λ b. all_empty (from_top xs) && b) (all_empty_one (part_of x)))
    ∙ (sym (all_empty_append (from_top xs) (part_of x ∷ [])) ∙ sym (ap all_empty (under x xs)))))
