-- Spans: the bytes at the front of a text that pass a test.
use Rattle.std.proofs.Common.{◌≡◌, ℕ, suc, ◌+◌, ◌<◌, ◌≤◌, ◌⊎◌, inl, inr, Bool, true, false, List, [], ◌∷◌, ◌++◌, length, take, drop, refl, sym, arith}
use Rattle.std.specs.List.{prefix_len, list_all}
use Rattle.std.proofs.lemmas.Bool.{and_parts, cases_Bool}
use Rattle.std.proofs.lemmas.List.{get_or-take, take-append-drop}
use Rattle.std.proofs.lemmas.List.Folds.{length-prefix_len}
use Rattle.std.proofs.lemmas.List.Sums.{prefix_len_passes, list_all-from_AllPass}

-- no more bytes of the span follow
abbrev pub Stops : (ℕ → Bool) → List ℕ → Type 0
Stops p [] = Unit {0}
Stops p (b ∷ more) = p b ≡ false

-- the span passes
pub span_passes : (p : ℕ → Bool) (bytes : List ℕ) → list_all p (take (prefix_len p bytes) bytes) ≡ true
span_passes p bytes = list_all-from_AllPass p _ (λ k d lt.
    let below : k < prefix_len p bytes = omega (arith, length-prefix_len p bytes) in
    rw (get_or-take (prefix_len p bytes) bytes k d below) (prefix_len_passes p bytes k d below))

-- behind the span comes a byte that doesn't pass
pub span_stops : (p : ℕ → Bool) (bytes : List ℕ) → Stops p (drop (prefix_len p bytes) bytes)
span_stops p [] = tt
span_stops p (b ∷ more) =
    elim (cases_Bool (p b)) [
      | inl holds ↦ let one : 1 + prefix_len p more ≡ suc (prefix_len p more) = omega arith in rw (holds, one) (span_stops p more)
      | inr fails ↦ rw fails fails
    ]

-- bytes that pass, up to one that doesn't, are the span
pub span_len : (p : ℕ → Bool) (w rest : List ℕ) → list_all p w ≡ true → Stops p rest → prefix_len p (w ++ rest) ≡ length w
span_len p [] [] h s = refl
span_len p [] (b ∷ more) h s = rw s refl
span_len p (c ∷ w) rest h s =
    let both = and_parts (p c) (list_all p w) h in
    rw both.0 (omega (arith, span_len p w rest both.1 s))

-- bytes that pass are part of the span
pub span_holds : (p : ℕ → Bool) (w more : List ℕ) → list_all p w ≡ true → length w ≤ prefix_len p (w ++ more)
span_holds p [] more h = omega arith
span_holds p (c ∷ w) more h =
    let both = and_parts (p c) (list_all p w) h in
    rw both.0 (omega (arith, span_holds p w more both.1))

-- the span and what comes behind it
pub span_parts : (p : ℕ → Bool) (bytes : List ℕ) → bytes ≡ take (prefix_len p bytes) bytes ++ drop (prefix_len p bytes) bytes
span_parts p bytes = sym (take-append-drop (prefix_len p bytes) bytes)
