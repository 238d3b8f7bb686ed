-- The lowest leaf stands at node 1, and a write of a leaf is made good from its parent upwards.
use Rattle.std.proofs.Common.{◌≡◌, ◌⊎◌, ℕ, zero, suc, ◌+◌, ◌-◌, ◌*◌, ◌/◌, ◌%◌, ◌<◌, ◌≤◌, min, Bool, true, false, nat_lt, List, [], ◌∷◌, length, map, drop, get_or, set, Option, None, Some, slice_index, replicate, inl, inr, refl, sym, ◌∙◌, ap, subst, arith}
use Rattle.std.specs.Prelude.{slice_get, option_map}
use Rattle.std.proofs.lemmas.Bool.{cases_lt, cases_eq, lt-ltb, le-ltb}
use Rattle.std.proofs.lemmas.List.{get_or-drop, length-set, drop-replicate, drop-set-lt, drop-set-add, map-set, get_or-set_same, get_or-set_other, length-drop, length-map}
use Rattle.std.proofs.lemmas.Option.{slice_get-map, slice_get-get_or}
use Rattle.number_set.specs.Members.{IsLowest, IsEmpty}
use Rattle.number_set.specs.Trees.{IsTree, flags_of}

-- the flag of a number below the bound
pub flag_is : (bound : ℕ) (nodes : List ℕ) (n : ℕ) → IsTree bound nodes → n < bound → slice_get (flags_of bound nodes) n ≡ Some (nat_lt (slice_index nodes (bound + n)) bound)
flag_is bound nodes n t h =
    let short : n < length (drop bound nodes) = let z = t.size in let y = length-drop bound nodes in omega arith in
    slice_get-map (λ x. nat_lt x bound) (drop bound nodes) n
    ∙ (ap (option_map (λ x. nat_lt x bound)) (slice_get-get_or (drop bound nodes) n 0 short)
    ∙ ap (λ x. Some (nat_lt x bound)) (get_or-drop bound nodes n 0))

-- node 1 has no more than each node
root_le : (bound : ℕ) (nodes : List ℕ) (fuel x : ℕ) → IsTree bound nodes → x ≤ fuel → 1 ≤ x → x < 2 * bound → slice_index nodes 1 ≤ slice_index nodes x
root_le bound nodes zero x t f p q = absurd (omega arith)
root_le bound nodes (suc fuel) x t f p q =
    elim (cases_eq x 1) [
      | inl e ↦ subst (λ k. slice_index nodes 1 ≤ slice_index nodes k) (sym e) (omega arith)
      | inr e ↦
          let half : x / 2 < bound = omega arith in
          let a = root_le bound nodes fuel (x / 2) t (omega arith) (omega arith) (omega arith) in
          let b = t.lesser (x / 2) (omega arith) half in
          elim (cases_eq (x % 2) 0) [
            | inl r ↦ let c : 2 * (x / 2) ≡ x = omega arith in let d : slice_index nodes (2 * (x / 2)) ≡ slice_index nodes x = ap (slice_index nodes) c in omega arith
            | inr r ↦ let c : 2 * (x / 2) + 1 ≡ x = omega arith in let d : slice_index nodes (2 * (x / 2) + 1) ≡ slice_index nodes x = ap (slice_index nodes) c in omega arith
          ]
    ]

-- each node has what some leaf has
leaf_has : (bound : ℕ) (nodes : List ℕ) (fuel k : ℕ) → IsTree bound nodes → 2 * bound ≤ fuel + k → 1 ≤ k → k < 2 * bound → (n : ℕ) × (n < bound) × (slice_index nodes (bound + n) ≡ slice_index nodes k)
leaf_has bound nodes zero k t f p q = absurd (omega arith)
leaf_has bound nodes (suc fuel) k t f p q =
    elim (cases_lt k bound) [
      | inr h ↦ let e : bound + (k - bound) ≡ k = omega arith in (k - bound, omega arith, ap (slice_index nodes) e)
      | inl h ↦
          let b = t.lesser k p h in
          elim (cases_lt (slice_index nodes (2 * k)) (slice_index nodes (2 * k + 1))) [
            | inl r ↦ let s = leaf_has bound nodes fuel (2 * k) t (omega arith) (omega arith) (omega arith) in (s.0, s.1, s.2 ∙ omega arith)
            | inr r ↦ let s = leaf_has bound nodes fuel (2 * k + 1) t (omega arith) (omega arith) (omega arith) in (s.0, s.1, s.2 ∙ omega arith)
          ]
    ]

-- a leaf above what it has, or at the bound, is no member
no_member : (bound : ℕ) (nodes : List ℕ) (n v : ℕ) → IsTree bound nodes → n < bound → slice_index nodes 1 ≡ v → n < v → slice_get (flags_of bound nodes) n ≡ Some false
no_member bound nodes n v t h e p =
    let a = root_le bound nodes (bound + n) (bound + n) t (omega arith) (omega arith) (omega arith) in
    flag_is bound nodes n t h
    ∙ elim (t.leaf n h) [
      | inl x ↦ absurd (omega arith)
      | inr x ↦ ap (λ y. Some y) (le-ltb (slice_index nodes (bound + n)) bound (omega arith))
    ]

pub root_is_lowest : (bound : ℕ) (nodes : List ℕ) (v : ℕ) → IsTree bound nodes → slice_index nodes 1 ≡ v → v < bound → IsLowest (flags_of bound nodes) v
root_is_lowest bound nodes v t e h =
    let r = leaf_has bound nodes (2 * bound) 1 t (omega arith) (omega arith) (omega arith) in
    record {
      member = by_leaf r.0 r.1 (r.2 ∙ e) (t.leaf r.0 r.1);
      lowest = λ m p. no_member bound nodes m v t (omega arith) e p;
    }
  where
    by_leaf : (n : ℕ) → n < bound → slice_index nodes (bound + n) ≡ v → (slice_index nodes (bound + n) ≡ n) ⊎ (slice_index nodes (bound + n) ≡ bound) → slice_get (flags_of bound nodes) v ≡ Some true
    by_leaf n p q (inl x) = subst (λ k. slice_get (flags_of bound nodes) k ≡ Some true) (sym x ∙ q) (flag_is bound nodes n t p ∙ ap (λ y. Some y) (lt-ltb (slice_index nodes (bound + n)) bound (omega arith)))
    by_leaf n p q (inr x) = absurd (omega arith)

pub root_is_bound : (bound : ℕ) (nodes : List ℕ) (v m : ℕ) → IsTree bound nodes → slice_index nodes 1 ≡ v → bound ≤ v → m < bound → slice_get (flags_of bound nodes) m ≡ Some false
root_is_bound bound nodes v m t e h p = no_member bound nodes m v t p e (omega arith)

pub length_flags : (bound : ℕ) (nodes : List ℕ) → IsTree bound nodes → length (flags_of bound nodes) ≡ bound
length_flags bound nodes t = let a = t.size in length-map (drop bound nodes) (λ x. nat_lt x bound) ∙ (length-drop bound nodes ∙ omega arith)

-- every node below the bound has the lesser of its children, but for one
pub record AllBut (bound : ℕ) (nodes : List ℕ) (parent : ℕ) : Type 0 where
  pub size : length nodes ≡ 2 * bound
  pub leaf : (n : ℕ) → n < bound → (slice_index nodes (bound + n) ≡ n) ⊎ (slice_index nodes (bound + n) ≡ bound)
  pub lesser : (k : ℕ) → 1 ≤ k → k < bound → (k ≡ parent → ⊥) → slice_index nodes k ≡ min (slice_index nodes (2 * k)) (slice_index nodes (2 * k + 1))

other : (nodes : List ℕ) (i v k : ℕ) → (k ≡ i → ⊥) → slice_index (set nodes i v) k ≡ slice_index nodes k
other nodes i v k n = get_or-set_other nodes i k v 0 n

same : (nodes : List ℕ) (i v : ℕ) → i < length nodes → slice_index (set nodes i v) i ≡ v
same nodes i v h = get_or-set_same nodes i v 0 h

-- a leaf is written
pub leaf_written : (bound : ℕ) (nodes : List ℕ) (n v : ℕ) → IsTree bound nodes → n < bound → (v ≡ n) ⊎ (v ≡ bound) → AllBut bound (set nodes (bound + n) v) ((bound + n) / 2)
leaf_written bound nodes n v t h w =
    record {
      size = length-set nodes (bound + n) v ∙ t.size;
      leaf = λ m p. elim (cases_eq m n) [
        | inl e ↦ subst (λ k. (slice_index (set nodes (bound + n) v) (bound + k) ≡ k) ⊎ (slice_index (set nodes (bound + n) v) (bound + k) ≡ bound)) (sym e) (let z = t.size in let s = same nodes (bound + n) v (omega arith) in elim w [ inl x ↦ inl (s ∙ x) | inr x ↦ inr (s ∙ x) ])
        | inr e ↦ let s = other nodes (bound + n) v (bound + m) (λ x. e (omega arith)) in elim (t.leaf m p) [ inl x ↦ inl (s ∙ x) | inr x ↦ inr (s ∙ x) ]
      ];
      lesser = λ k p q r.
          let a = other nodes (bound + n) v k (λ x. omega arith) in
          let b = other nodes (bound + n) v (2 * k) (λ x. r (omega arith)) in
          let c = other nodes (bound + n) v (2 * k + 1) (λ x. r (omega arith)) in
          let d = t.lesser k p q in
          omega arith;
    }

-- a parent is made good
pub parent_written : (bound : ℕ) (nodes : List ℕ) (node : ℕ) → AllBut bound nodes (node / 2) → 1 < node → node < 2 * bound
    → AllBut bound (set nodes (node / 2) (min (slice_index nodes (2 * (node / 2))) (slice_index nodes (2 * (node / 2) + 1)))) (node / 2 / 2)
parent_written bound nodes node t g h =
    record {
      size = length-set nodes (node / 2) _ ∙ t.size;
      leaf = λ m p. let s = other nodes (node / 2) (min (slice_index nodes (2 * (node / 2))) (slice_index nodes (2 * (node / 2) + 1))) (bound + m) (λ x. omega arith) in elim (t.leaf m p) [ inl x ↦ inl (s ∙ x) | inr x ↦ inr (s ∙ x) ];
      lesser = λ k p q r. at_node k p q r (node / 2) refl (min (slice_index nodes (2 * (node / 2))) (slice_index nodes (2 * (node / 2) + 1))) refl;
    }
  where
    at_node : (k : ℕ) → 1 ≤ k → k < bound → (k ≡ node / 2 / 2 → ⊥) → (j : ℕ) → j ≡ node / 2 → (v : ℕ) → v ≡ min (slice_index nodes (2 * (node / 2))) (slice_index nodes (2 * (node / 2) + 1))
        → slice_index (set nodes j v) k ≡ min (slice_index (set nodes j v) (2 * k)) (slice_index (set nodes j v) (2 * k + 1))
    at_node k p q r j e v f =
        let b = other nodes j v (2 * k) (λ x. r (omega arith)) in
        let c = other nodes j v (2 * k + 1) (λ x. r (omega arith)) in
        elim (cases_eq k j) [
          | inl x ↦
              let z = t.size in
              let s = same nodes j v (omega arith) in
              let y : slice_index (set nodes j v) k ≡ slice_index (set nodes j v) j = ap (slice_index (set nodes j v)) x in
              let u : slice_index nodes (2 * (node / 2)) ≡ slice_index nodes (2 * k) = ap (λ w. slice_index nodes (2 * w)) (sym e ∙ sym x) in
              let w : slice_index nodes (2 * (node / 2) + 1) ≡ slice_index nodes (2 * k + 1) = ap (λ o. slice_index nodes (2 * o + 1)) (sym e ∙ sym x) in
              omega arith
          | inr x ↦
              let a = other nodes j v k x in
              let d = t.lesser k p q (λ y. x (y ∙ sym e)) in
              omega arith
        ]

pub tree_from : (bound : ℕ) (nodes : List ℕ) (node : ℕ) → AllBut bound nodes (node / 2) → node ≤ 1 → IsTree bound nodes
tree_from bound nodes node t h = record { size = t.size; leaf = t.leaf; lesser = λ k p q. t.lesser k p q (λ e. absurd (omega arith)) }

-- what the writes do to the flags
pub flags_leaf : (bound : ℕ) (nodes : List ℕ) (n v : ℕ) → flags_of bound (set nodes (bound + n) v) ≡ set (flags_of bound nodes) n (nat_lt v bound)
flags_leaf bound nodes n v = ap (map (λ x. nat_lt x bound)) (drop-set-add bound nodes n v) ∙ map-set (λ x. nat_lt x bound) (drop bound nodes) n v

pub flags_parent : (bound : ℕ) (nodes : List ℕ) (k v : ℕ) → k < bound → flags_of bound (set nodes k v) ≡ flags_of bound nodes
flags_parent bound nodes k v h = ap (map (λ x. nat_lt x bound)) (drop-set-lt bound nodes k v h)

map_replicate : (f : ℕ → Bool) (n y : ℕ) → map f (replicate n y) ≡ replicate n (f y)
map_replicate f zero y = refl
map_replicate f (suc n) y = ap (λ t. f y ∷ t) (map_replicate f n y)

pub flags_none : (bound : ℕ) → flags_of bound (replicate (2 * bound) bound) ≡ replicate bound false
flags_none bound =
    let n : 2 * bound - bound ≡ bound = omega arith in
    ap (map (λ x. nat_lt x bound)) (drop-replicate bound (2 * bound) bound ∙ ap (λ k. replicate k bound) n)
    ∙ (map_replicate (λ x. nat_lt x bound) bound bound ∙ ap (λ b. replicate bound b) (le-ltb bound bound (omega arith)))
