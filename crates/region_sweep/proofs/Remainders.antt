-- Sums of counts, by their remainders: where k + 1 is m, to add k is to take one away, so a + b * k is a - b.
use Rattle.std.proofs.Common.{◌≡◌, Bool, true, false, cond, ℕ, suc, ◌+◌, ◌*◌, ◌%◌, ◌<◌, ◌≤◌, sym, ap, ◌∙◌, arith}
use Rattle.std.proofs.Math.Nat.{mod-add-mod, mul-suc, suc-mul}
use Rattle.std.proofs.lemmas.Nat.{mod-mul-add}

shuffle : (a t : ℕ) → a + t + 1 ≡ a + 1 + t
shuffle a t = omega arith

joined : (a s t : ℕ) → a + s + t ≡ a + (s + t)
joined a s t = omega arith

once_more : (b k : ℕ) → b * k + k ≡ (b + 1) * k
once_more b k = let e : suc b ≡ b + 1 = omega arith in sym (suc-mul b k) ∙ ap (λ t. t * k) e

-- one more to add
pub one_added : (a b k m : ℕ) → ((a + b * k) % m + 1) % m ≡ ((a + 1) + b * k) % m
one_added a b k m = mod-add-mod (a + b * k) m 1 ∙ ap (λ n. n % m) (shuffle a (b * k))

-- one more to take away
pub one_taken : (a b k m : ℕ) → ((a + b * k) % m + k) % m ≡ (a + (b + 1) * k) % m
one_taken a b k m =
    mod-add-mod (a + b * k) m k ∙ ap (λ n. n % m) (joined a (b * k) k ∙ ap (λ n. a + n) (once_more b k))

rearranged : (b n t : ℕ) → (b + n) + t ≡ (t + b) + n
rearranged b n t = omega arith

-- of b + n and b the difference is n
pub difference_is : (b n k m : ℕ) → suc k ≡ m → n < m → ((b + n) + b * k) % m ≡ n
difference_is b n k m e l =
    ap (λ t. t % m) (rearranged b n (b * k) ∙ ap (λ t. t + n) (sym (mul-suc b k) ∙ ap (λ t. b * t) e)) ∙ mod-mul-add b m n l

-- a count to which at most one is added stays as small as a bound to which one is added
pub few_more : (b : Bool) (n m : ℕ) → n ≤ m → cond b (n + 1) n ≤ suc m
few_more true n m l = omega arith
few_more false n m l = omega arith
