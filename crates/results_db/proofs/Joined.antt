-- The text of a check's first results, where more results come behind them.
use Rattle.std.proofs.Common.{◌≡◌, ℕ, ◌+◌, ◌*◌, ◌-◌, ◌≤◌, min, List, [], ◌∷◌, ◌++◌, length, take, map, sum_by, Option, Some, None, inl, inr, refl, sym, ap, ◌∙◌, arith, append_assoc, append-nil}
use Rattle.std.proofs.lemmas.Bool.{cases_lt}
use Rattle.std.proofs.lemmas.List.{take-append-le}
use Rattle.std.proofs.lemmas.Grind.{common_steps}
use Rattle.std.proofs.Math.Seq.{take-append-add, take-append_seam}
use Rattle.drc_geom.specs.declared.run.Run.{Run}
use Rattle.results_db.specs.Results.{Result, run, lines_of, result_text, results_from}
use Rattle.results_db.specs.Reports.{within}

-- each run takes two lines
pub lines_of_runs : (runs : List Run) → sum_by lines_of (map run runs) ≡ length runs * 2
lines_of_runs [] = refl
lines_of_runs (r ∷ runs) = grind (arith, common_steps, lines_of_runs runs)

results_joined : (k : ℕ) (xs ys : List Result) → results_from k (xs ++ ys) ≡ results_from k xs ++ results_from (k + length xs) ys
results_joined k [] ys = ap (λ n. results_from n ys) (let e : k ≡ k + 0 = omega arith in e)
results_joined k (x ∷ xs) ys =
    let next : k + 1 + length xs ≡ k + length (x ∷ xs) = omega arith in
    ap (λ t. result_text k x ++ t) (results_joined (k + 1) xs ys ∙ ap (λ n. results_from (k + 1) xs ++ results_from n ys) next)
    ∙ sym (append_assoc (result_text k x) (results_from (k + 1) xs) (results_from (k + length (x ∷ xs)) ys))

-- the limit cuts the results that stand: no more are written
cut_before : (xs ys : List Result) (n m : ℕ) → n ≤ length xs → m ≡ n
    → results_from 1 (take m (xs ++ ys)) ≡ results_from 1 (take n xs) ++ results_from (n + 1) (take (m - n) ys)
cut_before xs ys n m h e =
    let none : m - n ≡ 0 = omega arith in
    rw (none, e) (ap (λ l. results_from 1 l) (take-append-le n xs ys h) ∙ sym (append-nil (results_from 1 (take n xs))))

-- all results that stand are written
cut_behind : (xs ys : List Result) (n m : ℕ) → n ≡ length xs → n ≤ m
    → results_from 1 (take m (xs ++ ys)) ≡ results_from 1 (take n xs) ++ results_from (n + 1) (take (m - n) ys)
cut_behind xs ys n m e h =
    let more : m ≡ length xs + (m - n) = omega arith in
    let next : 1 + length xs ≡ n + 1 = omega arith in
    let whole : take n xs ≡ xs = ap (λ k. take k xs) e ∙ (ap (λ l. take (length xs) l) (sym (append-nil xs)) ∙ take-append_seam xs []) in
    ap (λ k. results_from 1 (take k (xs ++ ys))) more
    ∙ (ap (λ l. results_from 1 l) (take-append-add xs ys (m - n))
    ∙ (results_joined 1 xs (take (m - n) ys)
    ∙ (ap (λ k. results_from 1 xs ++ results_from k (take (m - n) ys)) next
    ∙ ap (λ l. results_from 1 l ++ results_from (n + 1) (take (m - n) ys)) (sym whole))))

pub first_joined : (limit : Option ℕ) (xs ys : List Result)
    → results_from 1 (take (within limit (length xs + length ys)) (xs ++ ys))
    ≡ results_from 1 (take (within limit (length xs)) xs)
    ++ results_from (within limit (length xs) + 1) (take (within limit (length xs + length ys) - within limit (length xs)) ys)
first_joined None xs ys = cut_behind xs ys (length xs) (length xs + length ys) refl (omega arith)
first_joined (Some limit) xs ys =
    elim (cases_lt limit (length xs)) [
      | inl h ↦ cut_before xs ys (min (length xs) limit) (min (length xs + length ys) limit) (omega arith) (omega arith)
      | inr h ↦ cut_behind xs ys (min (length xs) limit) (min (length xs + length ys) limit) (omega arith) (omega arith)
    ]
