-- These are working words: the tree in which a set lies.
use Rattle.std.specs.Prelude.{◌≡◌, ◌⊎◌, ℕ, ◌+◌, ◌*◌, ◌<◌, ◌≤◌, min, Bool, nat_lt, List, length, map, drop, slice_index}

-- which numbers below the bound have a leaf of their own value
abbrev pub flags_of : ℕ → List ℕ → List Bool
flags_of bound nodes = map (λ x. nat_lt x bound) (drop bound nodes)

pub record IsTree (bound : ℕ) (nodes : List ℕ) : Type 0 where
  pub size : length nodes ≡ 2 * bound
  pub leaf : (n : ℕ) → n < bound → (slice_index nodes (bound + n) ≡ n) ⊎ (slice_index nodes (bound + n) ≡ bound)
  pub lesser : (k : ℕ) → 1 ≤ k → k < bound → slice_index nodes k ≡ min (slice_index nodes (2 * k)) (slice_index nodes (2 * k + 1))
