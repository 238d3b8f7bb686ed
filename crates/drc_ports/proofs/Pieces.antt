-- A piece at the front of what is left, or at the end of what is there.
use Rattle.std.proofs.Common.{◌≡◌, ℕ, ◌+◌, ◌-◌, ◌≤◌, Bool, true, false, if◌then◌else◌, List, [], ◌++◌, length, take, drop, refl, sym, ap, ◌∙◌, arith, length-drop}
use Rattle.std.proofs.lemmas.List.{append-nil, take-take, take_at, drop-drop, length-take-le, take-append-drop}

pub appended : (taken : Bool) (bytes piece : List ℕ) → (if taken then bytes ++ piece else bytes) ≡ bytes ++ (if taken then piece else [])
appended true bytes piece = refl
appended false bytes piece = sym (append-nil bytes)

-- what was copied to the front of the buffer is the front of what was left
pub copied : (bytes : List ℕ) (position count : ℕ) (front rest : List ℕ) → count ≤ length bytes - position
    → front ≡ take count (take (length bytes - position) (drop position bytes))
    → drop position bytes ≡ take count (front ++ rest) ++ drop (position + count) bytes
copied bytes position count front rest fits is =
    let left = drop position bytes in
    let whole : front ≡ take count left = is ∙ take-take count (length bytes - position) left fits in
    let long : length front ≡ count = ap length whole ∙ length-take-le count left (omega (arith, length-drop position bytes)) in
    sym (take-append-drop count left)
    ∙ ap (λ (l : List ℕ). take count left ++ l) (drop-drop count position bytes)
    ∙ ap (λ (l : List ℕ). l ++ drop (position + count) bytes) (sym (take_at front rest count long ∙ whole))
