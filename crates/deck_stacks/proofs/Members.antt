-- Members of lists.
use Rattle.std.proofs.Common.{◌≡◌, ◌⊎◌, inl, inr, List, [], ◌∷◌, ◌++◌, map, refl}
use Rattle.std.specs.List.{flat_map}
use Rattle.deck_stacks.specs.Stacks.{Among, here, later}

pub in_left : {X : Type 0} {x : X} (xs ys : List X) → Among x xs → Among x (xs ++ ys)
in_left [] ys m = elim m [ ]
in_left (_ ∷ xs) ys here = here
in_left (_ ∷ xs) ys (later m) = later (in_left xs ys m)

pub in_right : {X : Type 0} {x : X} (xs ys : List X) → Among x ys → Among x (xs ++ ys)
in_right [] ys m = m
in_right (_ ∷ xs) ys m = later (in_right xs ys m)

pub in_map : {X Y : Type 0} (f : X → Y) {x : X} (xs : List X) → Among x xs → Among (f x) (map f xs)
in_map f [] m = elim m [ ]
in_map f (_ ∷ xs) here = here
in_map f (_ ∷ xs) (later m) = later (in_map f xs m)

pub in_flat_map : {X Y : Type 0} (f : X → List Y) {x : X} {y : Y} (xs : List X) → Among x xs → Among y (f x) → Among y (flat_map f xs)
in_flat_map f [] n m = elim n [ ]
in_flat_map f (x ∷ xs) here m = in_left (f x) (flat_map f xs) m
in_flat_map f (x ∷ xs) (later n) m = in_right (f x) (flat_map f xs) (in_flat_map f xs n m)

pub either_list : {X : Type 0} {x : X} (xs ys : List X) → Among x (xs ++ ys) → Among x xs ⊎ Among x ys
either_list [] ys m = inr m
either_list (_ ∷ xs) ys here = inl here
either_list (_ ∷ xs) ys (later m) = elim (either_list xs ys m) [
  | inl n ↦ inl (later n)
  | inr n ↦ inr n
]

pub from_flat_map : {X Y : Type 0} (f : X → List Y) {y : Y} (xs : List X) → Among y (flat_map f xs) → (x : X) × Among x xs × Among y (f x)
from_flat_map f [] m = elim m [ ]
from_flat_map f (x ∷ xs) m = elim (either_list (f x) (flat_map f xs) m) [
  | inl n ↦ (x, here, n)
  | inr n ↦ let r = from_flat_map f xs n in (r.0, later r.1, r.2)
]

pub from_map : {X Y : Type 0} (f : X → Y) {y : Y} (xs : List X) → Among y (map f xs) → (x : X) × Among x xs × (f x ≡ y)
from_map f [] m = elim m [ ]
from_map f (x ∷ xs) here = (x, here, refl)
from_map f (x ∷ xs) (later m) = let r = from_map f xs m in (r.0, later r.1, r.2)
