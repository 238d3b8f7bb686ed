-- Returns: a layer has as many returns as released places, so it is let go exactly when every place that reads it is
-- released.
use Rattle.std.proofs.Common.{◌≡◌, ℕ, zero, suc, ◌+◌, ◌<◌, ◌≤◌, Bool, true, false, ◌&&◌, ◌||◌, cond, inl, inr, List, [], ◌∷◌, length, get_or, Option, None, Some, refl, sym, ◌∙◌, ap, arith, sum_by}
use Rattle.std.proofs.lemmas.Bool.{cases_lt, eqb-true, ne_eqb}
use Rattle.std.proofs.lemmas.List.{take_all}
use Rattle.std.proofs.lemmas.Option.{slice_get-get_or}
use lib.Dec.{eqb, ltb}
use Rattle.layer_model.specs.declared.wiring.Wire.{Wire}
use Rattle.layer_model.specs.Wirings.{input, input_from, input_count, reads, reader_count, one_if_some, one_if_at}
use Rattle.ledger_history.specs.declared.event.Event.{Event}
use Rattle.ledger_history.specs.declared.event.Event.TheVariants.{Release}
use Rattle.ledger_history.specs.Histories.{Setup, operations, is_released, releases, returns}
use Rattle.ledger_history.specs.Enabled.{Legal}
use Rattle.ledger_history.specs.Totals.{sum_to}
use Rattle.ledger_history.specs.Readers.{HasReader}
use Rattle.ledger_history.proofs.Choices.{eqb_itself}
use Rattle.ledger_history.proofs.Orders.{held_is_claimed, claimed_is_there}
use Rattle.ledger_history.proofs.Releases.{released_below}
use Rattle.ledger_history.proofs.Sums.{sum_step, sum_le, sum_less, smaller_term, sum_same, sum_by_places, sum_zero}

abbrev pub no_wire : Wire
no_wire = record { first = None; second = None; reported = false }

-- how many places of operation i read j
abbrev pub reads_at : Setup → ℕ → ℕ → ℕ
reads_at s j i = one_if_at (input s.wires i 0) j + one_if_at (input s.wires i 1) j

-- how many places of operation i that read j are released
abbrev pub back_at : Setup → List Event → ℕ → ℕ → ℕ
back_at s h j i = cond (is_released h i 0) (one_if_at (input s.wires i 0) j) 0 + cond (is_released h i 1) (one_if_at (input s.wires i 1) j) 0

pub input_is_there : (ws : List Wire) (i k j : ℕ) → input ws i k ≡ Some j → i < length ws
input_is_there [] i k j e = absurd cc
input_is_there (w ∷ ws) zero k j e = omega arith
input_is_there (w ∷ ws) (suc i) k j e = let r = input_is_there ws i k j e in omega arith

pub no_third : (ws : List Wire) (i k m : ℕ) → input ws i (suc (suc k)) ≡ Some m → ⊥
no_third [] i k m e = cc
no_third (w ∷ ws) zero k m e = cc
no_third (w ∷ ws) (suc i) k m e = no_third ws i k m e

pub one_at : (o : Option ℕ) (j : ℕ) → o ≡ Some j → one_if_at o j ≡ 1
one_at o j e = ap (λ p. one_if_at p j) e ∙ ap (λ b. cond b 1 0) (eqb_itself j)

pub at_one : (o : Option ℕ) (j : ℕ) → 0 < one_if_at o j → o ≡ Some j
at_one None j h = absurd (omega arith)
at_one (Some m) j h = by_test (eqb m j) refl h
  where
    by_test : (b : Bool) → eqb m j ≡ b → 0 < cond b 1 0 → Some m ≡ Some j
    by_test true e p = ap Some (eqb-true m j e)
    by_test false e p = absurd (omega arith)

-- the readers of j, by the places of each operation
pub readers_by_places : (s : Setup) (j : ℕ) → reader_count s.wires j ≡ sum_to (reads_at s j) (operations s)
readers_by_places s j =
    ap (sum_by (λ (w : Wire). reads w j)) (sym (take_all (length s.wires) s.wires (omega arith)))
    ∙ (sum_by_places (λ (w : Wire). reads w j) s.wires no_wire (length s.wires) (omega arith)
    ∙ sum_same (λ i. reads (get_or s.wires i no_wire) j) (reads_at s j) (length s.wires)
    (λ i h. ap (λ o. one_if_at (input_from o 0) j + one_if_at (input_from o 1) j) (sym (slice_get-get_or s.wires i no_wire h))))

-- a release puts one more place of its operation back
pub released_other : (h : List Event) (w m k i p : ℕ) → (i ≡ m → ⊥) → is_released (Release w m k ∷ h) i p ≡ is_released h i p
released_other h w m k i p n = ap (λ b. (b && eqb k p) || is_released h i p) (ne_eqb m i (λ e. n (sym e)))

released_same : (h : List Event) (w m k p : ℕ) → is_released (Release w m k ∷ h) m p ≡ (eqb k p || is_released h m p)
released_same h w m k p = ap (λ b. (b && eqb k p) || is_released h m p) (eqb_itself m)

back_step : (s : Setup) (h : List Event) (w m k j : ℕ) → Legal s (Release w m k ∷ h)
    → back_at s (Release w m k ∷ h) j m ≡ one_if_at (input s.wires m k) j + back_at s h j m
back_step s h w m k j l =
    let r : k ≡ releases h m = (l.0).in_order in
    let fits : k < input_count s.wires m = (l.0).place in
    let at0 = released_below s h m 0 l.1 in
    let at1 = released_below s h m 1 l.1 in
    ap (λ b. cond b (one_if_at (input s.wires m 0) j) 0 + cond (is_released (Release w m k ∷ h) m 1) (one_if_at (input s.wires m 1) j) 0) (released_same h w m k 0)
    ∙ (ap (λ b. cond (eqb k 0 || is_released h m 0) (one_if_at (input s.wires m 0) j) 0 + cond b (one_if_at (input s.wires m 1) j) 0) (released_same h w m k 1)
    ∙ by_place k (is_released h m 0) (is_released h m 1) (omega (arith, two (input s.wires m 0) (input s.wires m 1)))
    (at0 ∙ ap (ltb 0) (sym r)) (at1 ∙ ap (ltb 1) (sym r)))
  where
    two : (o p : Option ℕ) → one_if_some o + one_if_some p ≤ 2
    two None None = omega arith
    two None (Some x) = omega arith
    two (Some x) None = omega arith
    two (Some x) (Some y) = omega arith

    by_place : (q : ℕ) (a b : Bool) → q < 2 → a ≡ ltb 0 q → b ≡ ltb 1 q
        → cond (eqb q 0 || a) (one_if_at (input s.wires m 0) j) 0 + cond (eqb q 1 || b) (one_if_at (input s.wires m 1) j) 0
        ≡ one_if_at (input s.wires m q) j + (cond a (one_if_at (input s.wires m 0) j) 0 + cond b (one_if_at (input s.wires m 1) j) 0)
    by_place zero a b h e f = rw (e, f) (omega arith)
    by_place (suc zero) a b h e f = rw (e, f) (omega arith)
    by_place (suc (suc q)) a b h e f = absurd (omega arith)

pub returns_by_places : (s : Setup) (h : List Event) (j : ℕ) → Legal s h → returns s h j ≡ sum_to (back_at s h j) (operations s)
returns_by_places s [] j l = sym (sum_zero (back_at s [] j) (operations s) (λ i _. refl))
returns_by_places s (Release w m k ∷ h) j l =
    ap (λ n. one_if_at (input s.wires m k) j + n) (returns_by_places s h j l.1)
    ∙ sym (sum_step (back_at s h j) (back_at s (Release w m k ∷ h) j) (operations s) m (one_if_at (input s.wires m k) j)
    (claimed_is_there s h m l.1 (held_is_claimed s h w m (l.0).holds))
    (λ i n. ap (λ b. cond b (one_if_at (input s.wires i 0) j) 0 + cond (is_released (Release w m k ∷ h) i 1) (one_if_at (input s.wires i 1) j) 0) (released_other h w m k i 0 n)
    ∙ ap (λ b. cond (is_released h i 0) (one_if_at (input s.wires i 0) j) 0 + cond b (one_if_at (input s.wires i 1) j) 0) (released_other h w m k i 1 n))
    (back_step s h w m k j l))
returns_by_places s (e ∷ h) j l = returns_by_places s h j l.1

within : (b : Bool) (n : ℕ) → cond b n 0 ≤ n
within true n = omega arith
within false n = omega arith

pub back_le_reads : (s : Setup) (h : List Event) (j i : ℕ) → back_at s h j i ≤ reads_at s j i
back_le_reads s h j i =
    let a = within (is_released h i 0) (one_if_at (input s.wires i 0) j) in
    let b = within (is_released h i 1) (one_if_at (input s.wires i 1) j) in
    omega arith

pub returns_fit : (s : Setup) (h : List Event) (j : ℕ) → Legal s h → returns s h j ≤ reader_count s.wires j
returns_fit s h j l =
    rw (returns_by_places s h j l, readers_by_places s j) (sum_le (back_at s h j) (reads_at s j) (operations s) (λ i _. back_le_reads s h j i))

-- while a place that reads j is out, j lacks a return
pub reader_lacks : (s : Setup) (h : List Event) (j : ℕ) → Legal s h → HasReader s h j → returns s h j < reader_count s.wires j
reader_lacks s h j l r =
    rw (returns_by_places s h j l, readers_by_places s j)
    (sum_less (back_at s h j) (reads_at s j) (operations s) r.op (input_is_there s.wires r.op r.place j r.reads) (back_le_reads s h j)
    (by_place r.place r.reads r.unreleased))
  where
    by_place : (k : ℕ) → input s.wires r.op k ≡ Some j → is_released h r.op k ≡ false → back_at s h j r.op < reads_at s j r.op
    by_place zero e u =
        let a : one_if_at (input s.wires r.op 0) j ≡ 1 = one_at (input s.wires r.op 0) j e in
        let b = within (is_released h r.op 1) (one_if_at (input s.wires r.op 1) j) in
        rw u (omega arith)
    by_place (suc zero) e u =
        let a : one_if_at (input s.wires r.op 1) j ≡ 1 = one_at (input s.wires r.op 1) j e in
        let b = within (is_released h r.op 0) (one_if_at (input s.wires r.op 0) j) in
        rw u (omega arith)
    by_place (suc (suc k)) e u = absurd (no_third s.wires r.op k j e)

-- where j lacks a return, a place that reads it is out
pub lacks_reader : (s : Setup) (h : List Event) (j : ℕ) → Legal s h → returns s h j < reader_count s.wires j → HasReader s h j
lacks_reader s h j l q =
    let r = smaller_term (back_at s h j) (reads_at s j) (operations s) (rw (← returns_by_places s h j l, ← readers_by_places s j) q) in
    by_tests r.0 (is_released h r.0 0) (is_released h r.0 1) refl refl r.2
  where
    by_tests : (i : ℕ) (a b : Bool) → is_released h i 0 ≡ a → is_released h i 1 ≡ b
        → cond a (one_if_at (input s.wires i 0) j) 0 + cond b (one_if_at (input s.wires i 1) j) 0 < reads_at s j i → HasReader s h j
    by_tests i true true e f p = absurd (omega arith)
    by_tests i true false e f p = record { op = i; place = 1; reads = at_one (input s.wires i 1) j (omega arith); unreleased = f }
    by_tests i false true e f p = record { op = i; place = 0; reads = at_one (input s.wires i 0) j (omega arith); unreleased = e }
    by_tests i false false e f p =
        elim (cases_lt 0 (one_if_at (input s.wires i 0) j)) [
          | inl x ↦ record { op = i; place = 0; reads = at_one (input s.wires i 0) j x; unreleased = e }
          | inr x ↦ record { op = i; place = 1; reads = at_one (input s.wires i 1) j (omega arith); unreleased = f }
        ]
